-- Counts, which stay at the largest number once they are there.
use Rattle.std.specs.Prelude.{ℕ, ◌+◌, ◌-◌, ◌^◌, min, Bool, cond}
use Rattle.replay.specs.declared.tally.Score.{Score}
use Rattle.replay.specs.declared.tally.Tally.{Tally}

abbrev pub plus : ℕ → ℕ → ℕ
plus m n = min (m + n) (2 ^ 64 - 1)

-- a score with one comparison more
abbrev pub counted : Score → Bool → Score
counted s agrees = record { compared = plus s.compared 1; agreed = cond agrees (plus s.agreed 1) s.agreed }

-- two scores put together
abbrev pub joined : Score → Score → Score
joined s t = record { compared = plus s.compared t.compared; agreed = plus s.agreed t.agreed }

-- how many comparisons did not agree
abbrev pub missed : Score → ℕ
missed s = s.compared - s.agreed

-- two tallies put together
abbrev pub total : Tally → Tally → Tally
total t u =
    record { modules = plus t.modules u.modules; lists = joined t.lists u.lists; tables = joined t.tables u.tables; records = joined t.records u.records; page_lines = plus t.page_lines u.page_lines; stopped = plus t.stopped u.stopped; refused = plus t.refused u.refused; later = plus t.later u.later }

-- a tally with one module more, and its lines that were not replayed
abbrev pub with_module : Tally → ℕ → Tally
with_module t lines =
    record { modules = plus t.modules 1; lists = t.lists; tables = t.tables; records = t.records; page_lines = t.page_lines; stopped = t.stopped; refused = t.refused; later = plus t.later lines }

-- a tally with one record more, and the lines of its pages
abbrev pub with_record : Tally → ℕ → Bool → Tally
with_record t lines agrees =
    record { modules = t.modules; lists = t.lists; tables = t.tables; records = counted t.records agrees; page_lines = plus t.page_lines lines; stopped = t.stopped; refused = t.refused; later = t.later }

-- a tally with one module more that stopped
abbrev pub with_stop : Tally → Tally
with_stop t =
    record { modules = t.modules; lists = t.lists; tables = t.tables; records = t.records; page_lines = t.page_lines; stopped = plus t.stopped 1; refused = t.refused; later = t.later }

-- a tally with one module more that the record refused
abbrev pub with_refusal : Tally → Tally
with_refusal t =
    record { modules = t.modules; lists = t.lists; tables = t.tables; records = t.records; page_lines = t.page_lines; stopped = t.stopped; refused = plus t.refused 1; later = t.later }

-- how many parts did not agree
abbrev pub all_missed : Tally → ℕ
all_missed t = plus (plus (missed t.lists) (missed t.tables)) (missed t.records)

-- Runs of items.
use Rattle.std.proofs.Common.{◌≡◌, ℕ, zero, suc, ◌+◌, ◌≤◌, List, [], ◌∷◌, length, refl, ap, ◌∙◌, arith}
use Rattle.std.proofs.lemmas.List.{append-nil}
use Rattle.lexer.specs.declared.token.Token.{Token}
use Rattle.reading.specs.Settings.{Setting}
use Rattle.reading.specs.Hosts.{Host}
use Rattle.reading.specs.Readings.{Item, AllFit, upto}
use Rattle.reading.specs.Steps.{got, add, bind}
use Rattle.reading.specs.Items.{items, read_all}
use Rattle.reading.specs.Grammar.{Items, no_items, an_item}
use Rattle.reading.specs.Runs.{Paged, items_of, faults_of, Run, stays, goes, Clearly, ExactlyRuns}
use Rattle.reading.proofs.Clean.{front_none}
use Rattle.reading.proofs.Whole.{item_sound, item_complete, after, some_left}
use Rattle.reading.proofs.OfLaws.{shorter}

module _ (w : Setting) (text : List ℕ) (h : Host) (all : List Token) where
  run_sound : {n e e' : ℕ} {ts rest : List Token} {ps : List Paged} → Run w text h all n e ts ps e' rest → faults_of ps ≡ []
      → Items text h all n ts (items_of ps) rest × AllFit w (items_of ps)
  run_sound stays q = (no_items, tt)
  run_sound (goes {n = n} {e = e} {e₁ = e₁} {t = t} {ts = ts} {m = m} {i = i} {fs = fs} p r) q =
      let z = front_none fs _ q in
      after w text h all (item_sound w text h all n e t ts (record { past = e₁; is = p ∙ ap (λ gs. got i gs e₁ m) z.0 })) (run_sound r z.1)

  run_complete : (n e : ℕ) (ts : List Token) {is : List Item} {rest : List Token} → Items text h all n ts is rest → AllFit w is → Clearly w text h all n e ts is rest
  run_complete n e ts no_items f = record { past = e; run = stays }
  run_complete n e [] (an_item c d) f = absurd (some_left c refl)
  run_complete n e (t ∷ ts) (an_item {m = m} c d) f =
      let y = item_complete w text h all n e c f.0 in
      let r = run_complete (n + length (upto (t ∷ ts) m)) y.past m d f.1 in
      record { past = r.past; run = goes y.is r.run }

  run_items : (room n e : ℕ) {e' : ℕ} (ts : List Token) {ps : List Paged} → Run w text h all n e ts ps e' [] → length ts ≤ room
      → items w text h all room n e ts ≡ got (items_of ps) (faults_of ps) e' []
  unfolding items bind add
  run_items room n e [] stays l = refl
  run_items zero n e (t ∷ ts) r l = absurd (omega arith)
  run_items (suc room) n e {e' = e'} (t ∷ ts) (goes {e₁ = e₁} {m = m} {i = i} {fs = fs} {ps = ps} q r) l =
      let s = shorter w text h all n e t ts i fs e₁ m q in
      let z = run_items room (n + length i.tokens) e₁ m r (omega arith) in
      rw (q, z, append-nil (faults_of ps)) refl

pub exact_runs : ExactlyRuns
unfolding read_all
exact_runs w text h all = record {
  sound = λ n e ts ps e' rest r q. run_sound w text h all r q;
  complete = λ n e ts is rest d f. run_complete w text h all n e ts d f;
  whole = λ ps e r. run_items w text h all (length all) 0 0 all r (omega arith);
}

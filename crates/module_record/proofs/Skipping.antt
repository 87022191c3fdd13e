-- There is room for skipped spans, since their names were written before.
use Rattle.std.proofs.Common.{◌≡◌, ◌+◌, ◌≤◌, List, [], ◌∷◌, length, refl, ap, ◌∙◌, arith}
use Rattle.std.specs.List.{flat_map}
use Rattle.std.proofs.lemmas.List.{length-append}
use Rattle.pages.specs.declared.rows.Specifier.{Specifier}
use Rattle.record_rules.specs.Filing.{Book, entering, went, names_in, skipped_in}
use Rattle.record_rules.proofs.Entering.{wrote}
use Rattle.module_record.specs.Books.{aliases}

alias_count : (xs : List Specifier) → (length (flat_map names_in (aliases xs)) ≡ length xs) × (flat_map skipped_in (aliases xs) ≡ [])
alias_count [] = (refl, refl)
alias_count (x ∷ xs) = let h = alias_count xs in (omega (arith, h.0), h.1)

pub aliases_room : (ss ts : List Specifier) (b c : Book) → ss ≡ ts → entering (aliases ss) b ≡ went c → length b.skipped ≤ length b.names
    → length c.skipped + length ts ≤ length c.names
aliases_room ss ts b c s e h =
    let w = wrote (aliases ss) b c e in
    let k = alias_count ss in
    let z = ap length s in
    let p = ap (λ x. length x.skipped) w ∙ length-append b.skipped (flat_map skipped_in (aliases ss)) in
    let n = ap (λ x. length x.names) w ∙ length-append b.names (flat_map names_in (aliases ss)) in
    omega (arith, k.0, ap length k.1)

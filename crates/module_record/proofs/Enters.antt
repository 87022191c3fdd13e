-- Rows that are written one after another.
use Rattle.std.proofs.Common.{◌≡◌, ℕ, ◌+◌, ◌<◌, List, [], ◌∷◌, ◌++◌, length, get_or, drop, inl, inr, sym, refl, ap, ◌∙◌}
use Rattle.std.specs.List.{flat_map}
use Rattle.std.proofs.lemmas.Bool.{cases_Bool}
use Rattle.std.proofs.lemmas.List.{drop_more}
use Rattle.record_rules.specs.Filing.{Book, Write, write, room, Outcome, went, stuck, entering}

-- the rows that come after, where there was room so far
abbrev pub then_enter : Outcome → List Write → Outcome
then_enter (went c) ws = entering ws c
then_enter (stuck c) ws = stuck c

pub entering_append : (xs ys : List Write) (b : Book) → entering (xs ++ ys) b ≡ then_enter (entering xs b) ys
entering_append [] ys b = refl
entering_append (w ∷ xs) ys b = elim (cases_Bool (room w b)) [
  | inl h ↦ rw h (entering_append xs ys (write w b))
  | inr h ↦ rw h refl
]

-- what is written of each item of a list, where ws is written of the one at the place i
module _ {T : Type 0} (h : T → List Write) (xs : List T) (i : ℕ) (x : T) (ws : List Write) (b c : Book) (l : i < length xs) (is : x ≡ get_or xs i x) (made : ws ≡ h x) where
  at_item : (o : Outcome) → entering ws b ≡ o → entering (flat_map h (drop i xs)) b ≡ then_enter o (flat_map h (drop (i + 1) xs))
  at_item o e =
      ap (λ ys. entering (flat_map h ys) b) (drop_more xs i x l ∙ ap (λ y. y ∷ drop (i + 1) xs) (sym is))
      ∙ entering_append (h x) (flat_map h (drop (i + 1) xs)) b ∙ ap (λ o. then_enter o (flat_map h (drop (i + 1) xs))) (ap (λ vs. entering vs b) (sym made) ∙ e)

  pub item_went : (whole : Outcome) → entering (flat_map h (drop i xs)) b ≡ whole → entering ws b ≡ went c → entering (flat_map h (drop (i + 1) xs)) c ≡ whole
  item_went whole k e = sym (at_item (went c) e) ∙ k

  pub item_stuck : (whole : Outcome) → entering (flat_map h (drop i xs)) b ≡ whole → entering ws b ≡ stuck c → whole ≡ stuck c
  item_stuck whole k e = sym k ∙ at_item (stuck c) e

pub ruleset entered = (entering_append)

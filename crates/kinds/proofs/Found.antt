-- What a search of a table of keywords finds is what the list of them says.
use Rattle.std.proofs.Common.{◌≡◌, ℕ, List, [], ◌∷◌, refl, inl, inr}
use Rattle.std.specs.List.{find}
use Rattle.std.specs.Option.{option_map_or}
use Rattle.std.specs.Str.{bytes_eq}
use Rattle.std.proofs.lemmas.Bool.{cases_Bool}
use Rattle.kinds.specs.declared.kind.Kind.TheVariants.{Ident}
use Rattle.kinds.specs.declared.keyword.Keyword.{Keyword}
use Rattle.kinds.specs.Keywords.{first_named}

pub named_as : (ws : List Keyword) (s : List ℕ) → option_map_or (λ w. w.kind) (find (λ w. bytes_eq w.text.now s) ws) Ident ≡ first_named ws s
named_as [] s = refl
named_as (w ∷ ws) s = elim (cases_Bool (bytes_eq w.text.now s)) [ inl h ↦ rw h refl | inr h ↦ rw h (named_as ws s) ]

-- The lines of tokens, with their places and without.
use Rattle.std.proofs.Common.{◌≡◌, ℕ, ◌+◌, List, [], ◌∷◌, ◌++◌, IfOk, Ok, Err, Result, refl, ap, ◌∙◌}
use Rattle.lexer.specs.declared.token.Token.{Token}
use Rattle.lexer.specs.Walks.{placed}
use Rattle.replay.specs.Shown.{token_line, token_lines, placed_lines}

pub placed_lines_lem : (f : ℕ → ℕ) (n : ℕ) (ts : List Token) → placed_lines (placed f n ts) ≡ token_lines ts
placed_lines_lem f n [] = refl
placed_lines_lem f n (t ∷ ts) = ap (λ (x : List ℕ). token_line t ++ x) (placed_lines_lem f (n + 1) ts)

-- where what is made has the bytes a, it has the bytes b
pub made_as : {X Y : Type 0} (f : X → List ℕ) (r : Result X Y) (a b : List ℕ) → IfOk r (λ x. f x ≡ a) → a ≡ b → IfOk r (λ x. f x ≡ b)
made_as f (Ok x) a b h e = h ∙ e
made_as f (Err y) a b h e = tt

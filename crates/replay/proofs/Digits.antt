-- Digits read pair by pair.
use Rattle.std.proofs.Common.{◌≡◌, ℕ, suc, ◌*◌, ◌/◌, ◌%◌, ◌<◌, ◌≤◌, List, [], ◌∷◌, length, get_or, take, drop, refl, ap, arith, IfOk, Result, Ok, Err}
use Rattle.replay.specs.Hex.{digit, digits}

-- bytes that each write the two codes at their place write all codes, where there are no more
pub all_written : (codes bs : List ℕ) → length codes ≤ 2 * length bs → ((k : ℕ) → k < length bs → digits (get_or bs k 0 ∷ []) ≡ take 2 (drop (k * 2) codes)) → digits bs ≡ codes
all_written [] [] l h = refl
all_written (x ∷ codes) [] l h = absurd (omega arith)
all_written [] (b ∷ bs) l h = absurd (omega (arith, ap length (h 0 (omega arith))))
all_written (x ∷ []) (b ∷ bs) l h = absurd (omega (arith, ap length (h 0 (omega arith))))
all_written (x ∷ y ∷ codes) (b ∷ bs) l h =
    let first : digit (b / 16) ∷ digit (b % 16) ∷ [] ≡ x ∷ y ∷ [] = h 0 (omega arith) in
    let others : digits bs ≡ codes = all_written codes bs (omega arith) (λ k less.
    let further : suc k * 2 ≡ suc (suc (k * 2)) = omega arith in
    rw further at (h (suc k) (omega arith))) in
    cc

-- the same of what was made, if something was
pub all_made : {X E : Type 0} (items : X → List ℕ) (r : Result X E) (codes : List ℕ) → IfOk r (λ v. length codes ≤ 2 * length (items v)) → IfOk r (λ v. (k : ℕ) → k < length (items v) → digits (get_or (items v) k 0 ∷ []) ≡ take 2 (drop (k * 2) codes)) → IfOk r (λ v. digits (items v) ≡ codes)
all_made items (Ok v) codes long each = all_written codes (items v) long each
all_made items (Err e) codes long each = tt

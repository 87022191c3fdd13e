-- Texts as lines, by their bytes; 10 is the new line.
use Rattle.std.specs.Prelude.{◌≡◌, ℕ, ◌<◌, List, ◌∷◌, ◌++◌, length, ◌≢◌, slice_index}

-- no new line stands in the text
abbrev pub Unbroken : List ℕ → Type 0
Unbroken bs = (i : ℕ) → i < length bs → slice_index bs i ≢ 10

-- a text without a line, which stays as it is
pub record NoLine (before after : List ℕ) : Type 0 where
  pub none : Unbroken before
  pub same : after ≡ before

-- a text is its first line, the new line, and what is left
pub record FirstLine (before line after : List ℕ) : Type 0 where
  pub whole : before ≡ line ++ (10 ∷ after)
  pub unbroken : Unbroken line

-- the first line is a word, a blank (code 32) and fields
pub record Fielded (before word fields after : List ℕ) : Type 0 where
  pub whole : before ≡ (word ++ (32 ∷ fields)) ++ (10 ∷ after)

-- A kind and its number, each from the other.
use Rattle.std.specs.Prelude.{◌≡◌, ℕ, Some, None, Result, MatchResult}
use Rattle.kinds.specs.declared.kind.Kind.{Kind}
use Rattle.kinds.specs.declared.kind.NoKind.{NoKind}
use Rattle.kinds.specs.Numbers.{number, kind_at}

-- the number of a kind, from which the kind can be told
pub record Numbered (k : Kind) (n : ℕ) : Type 0 where
  pub value : n ≡ number k
  pub back : kind_at n ≡ Some k

-- a kind that has the number
pub record Kinded (n : ℕ) (k : Kind) : Type 0 where
  pub value : kind_at n ≡ Some k
  pub back : number k ≡ n

-- a number that no kind has
pub record Unkinded (n : ℕ) (e : NoKind) : Type 0 where
  pub value : kind_at n ≡ None
  pub back : e.0 ≡ n

-- the kind of a number, or the number that no kind has
abbrev pub Decoded : ℕ → Result Kind NoKind → Type 0
Decoded n r = MatchResult r (Kinded n) (Unkinded n)

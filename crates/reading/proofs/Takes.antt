-- Elements take at least one token.
use Rattle.std.proofs.Common.{◌≡◌, ℕ, ◌<◌, ◌≤◌, Bool, false, List, [], ◌∷◌, length, sym, refl, ap, arith}
use Rattle.kinds.specs.declared.kind.Kind.{Kind}
use Rattle.kinds.specs.declared.kind.Kind.TheVariants.{Str, As, Colon}
use Rattle.kinds.specs.Numbers.{same}
use Rattle.kinds.specs.Classes.{is_identifier_name}
use Rattle.lexer.specs.declared.token.Token.{Token}
use Rattle.lexer.specs.Tokens.{ended}
use Rattle.pages.specs.declared.fault.Fault.{Fault}
use Rattle.pages.specs.declared.fault.FaultKind.{FaultKind}
use Rattle.pages.specs.declared.fault.FaultKind.TheVariants.{Expected, Unexpected, NoString}
use Rattle.reading.specs.Ahead.{next, rest, at}
use Rattle.reading.specs.Steps.{got, stop_at, esc, token, none, word, str, identifier, name}
use Rattle.reading.specs.Attributes.{key, attribute}
use Rattle.reading.specs.Imports.{local, alias, specifier}
use Rattle.reading.specs.Exports.{export_specifier}
use Rattle.reading.specs.Main.{ElementsTakeOne}
use Rattle.reading.proofs.Clean.{clash, never, unadded, bound_got, tested_got}
use Rattle.reading.proofs.OfKinds.{classed, seen}

-- one token
token_less : (k : FaultKind) (p : Token → Bool) (w : Token → List Fault) (e : ℕ) (ts : List Token) {t : Token} {fs : List Fault} {e' : ℕ} {m : List Token}
    → p ended ≡ false → token k p w e ts ≡ got t fs e' m → length m < length ts
unfolding token next rest stop_at
token_less k p w e [] z q = tested_got (p ended) _ _ q (λ h _. clash z h) (λ _ q₁. never (sym q₁))
token_less k p w e (t ∷ ts) {m = m} z q = tested_got (p t) _ _ q (λ _ q₁. let r : ts ≡ m = cc in omega (arith, ap length r)) (λ _ q₁. never (sym q₁))

word_less : (k : Kind) (e : ℕ) (ts : List Token) {t : Token} {fs : List Fault} {e' : ℕ} {m : List Token}
    → same ended.kind k ≡ false → word k e ts ≡ got t fs e' m → length m < length ts
word_less k e ts z q = token_less Expected (λ t. same t.kind k) esc e ts z q

str_less : (k : FaultKind) (e : ℕ) (ts : List Token) {t : Token} {fs : List Fault} {e' : ℕ} {m : List Token} → str k e ts ≡ got t fs e' m → length m < length ts
str_less k e ts q = token_less k (λ t. same t.kind Str) none e ts (seen Str refl refl) q

identifier_less : (e : ℕ) (ts : List Token) {t : Token} {fs : List Fault} {e' : ℕ} {m : List Token} → identifier e ts ≡ got t fs e' m → length m < length ts
identifier_less e ts q = token_less Unexpected (λ t. is_identifier_name t.kind) none e ts classed.eof_unnamed q

name_less : (e : ℕ) (ts : List Token) {t : Token} {fs : List Fault} {e' : ℕ} {m : List Token} → name e ts ≡ got t fs e' m → length m < length ts
unfolding name
name_less e ts {m = m} q = tested_got (at Str ts) _ _ q
    (λ _ q₁. bound_got (str Unexpected e ts) _ q₁ λ t _ e₁ n _ z q₂. tested_got t.lone _ _ q₂ (λ _ q₃. never (sym q₃))
    (λ _ q₃. let r : n ≡ m = cc in omega (arith, ap length r, str_less Unexpected e ts z)))
    (λ _ q₁. identifier_less e ts q₁)

alias_less : (x : Token) (e : ℕ) (ts : List Token) {t : Token} {fs : List Fault} {e' : ℕ} {m : List Token} → alias x e ts ≡ got t fs e' m → length m ≤ length ts
unfolding alias
alias_less x e ts {m = m} q = tested_got (at As ts) _ _ q
    (λ _ q₁. bound_got (word As e ts) _ q₁ λ _ _ e₁ n _ z q₂. omega (arith, word_less As e ts (seen As refl refl) z, name_less e₁ n q₂))
    (λ _ q₁. let r : ts ≡ m = cc in omega (arith, ap length r))

pub elements_take_one : ElementsTakeOne
unfolding specifier export_specifier attribute key
elements_take_one = record {
  specifiers = λ e ts a fs e' m q. bound_got (name e ts) _ q λ x _ e₁ n _ z q₁. bound_got (alias x e₁ n) _ q₁ λ y _ e₂ o _ z₁ q₂.
      unadded (local y) _ q₂ λ _ q₃. let r : o ≡ m = cc in omega (arith, ap length r, name_less e ts z, alias_less x e₁ n z₁);
  exports = λ e ts a fs e' m q. bound_got (name e ts) _ q λ x _ e₁ n _ z q₁. bound_got (alias x e₁ n) _ q₁ λ y _ e₂ o _ z₁ q₂.
      let r : o ≡ m = cc in omega (arith, ap length r, name_less e ts z, alias_less x e₁ n z₁);
  attributes = λ e ts a fs e' m q. bound_got (key e ts) _ q λ k _ e₁ n _ z q₁. bound_got (word Colon e₁ n) _ q₁ λ c _ e₂ o _ z₁ q₂.
      bound_got (str NoString e₂ o) _ q₂ λ v _ e₃ r _ z₂ q₃.
      let s : length n < length ts = tested_got (at Str ts) _ _ z (λ _ z'. str_less Unexpected e ts z') (λ _ z'. identifier_less e ts z') in
      let u : r ≡ m = cc in omega (arith, s, ap length u, word_less Colon e₁ n (seen Colon refl refl) z₁, str_less NoString e₂ o z₂);
}

-- Specifiers of imports and exports.
use Rattle.std.proofs.Common.{◌≡◌, ℕ, true, false, not, ◌⊎◌, List, [], refl, ap, inl, inr}
use Rattle.std.proofs.lemmas.Bool.{and_parts, and_from, not-true, or_from}
use Rattle.kinds.specs.declared.kind.Kind.{Kind}
use Rattle.kinds.specs.declared.kind.Kind.TheVariants.{Str, Eof, Undetermined, RCurly, Comma, As}
use Rattle.kinds.specs.Numbers.{same}
use Rattle.kinds.specs.Classes.{is_identifier_name, is_identifier, is_reserved}
use Rattle.lexer.specs.declared.token.Token.{Token}
use Rattle.pages.specs.declared.rows.Specifier.{Specifier}
use Rattle.reading.specs.Ahead.{next, at}
use Rattle.reading.specs.Readings.{specified}
use Rattle.reading.specs.Grammar.{one, Word, L, N, ImportSpecifier, alone, renamed, ExportSpecifier, alone_out, renamed_out}
use Rattle.reading.specs.Braces.{closes}
use Rattle.reading.specs.Imports.{local, alias, specifier}
use Rattle.reading.specs.Exports.{export_specifier}
use Rattle.reading.specs.Main.{Cleanly}
use Rattle.reading.proofs.Clean.{took, takes, bound_of, binds, tested, passes, fails, done, ends, added, adds, undrawn, clash}
use Rattle.reading.proofs.OfKinds.{same_is, seen, name_is_not, one_as, one_is, name_right, as_right, word_at}
use Rattle.reading.proofs.Lists.{Follow, Element}

-- as N, or nothing
data Alias (x : Token) : List Token → Token → List Token → Type 0 where
  no_alias : {m : List Token} → Alias x m x m
  an_alias : {m o n : List Token} {k l : Token} → Word As m k o → N o l n → Alias x m l n

alias_sound : (x : Token) (e : ℕ) (m : List Token) {l : Token} {n : List Token} → Cleanly (alias x e m) l n → Alias x m l n
unfolding alias
alias_sound x e m y = tested y
    (λ _ y₁. took e m as_right y₁ λ k e₁ o w y₂. an_alias w (name_right.sound e₁ y₂))
    (λ _ y₁. done (Alias x m) y₁ (λ _. no_alias))

without_alias : (x : Token) (e : ℕ) (m : List Token) → at As m ≡ false → Cleanly (alias x e m) x m
unfolding alias
without_alias x e m h = fails _ h ends

with_alias : (x : Token) (e : ℕ) {m o n : List Token} {k l : Token} → Word As m k o → N o l n → Cleanly (alias x e m) l n
unfolding alias
with_alias x e w r = passes _ (word_at As w refl) (takes e _ as_right w λ e₁. name_right.complete e₁ r)

-- no `as` follows where Comma or the close does
no_as : (m : List Token) → Follow RCurly m → at As m ≡ false
no_as m (inl h) = seen As (same_is (next m).kind Comma h) refl
no_as m (inr h) = seen As (same_is (next m).kind RCurly h) refl

-- local names of imports
abbrev NameOrString : Token → Type 0
NameOrString t = (is_identifier_name t.kind ≡ true) ⊎ ((t.kind ≡ Str) × (t.lone ≡ false))

local_is : (t : Token) → NameOrString t → local t ≡ [] → is_identifier t.kind ≡ true
unfolding local is_identifier
local_is t n h =
    let p = undrawn (same t.kind Str) _ _ h in
    elim n [ inl i ↦ and_from _ _ i (ap not (undrawn (is_reserved t.kind) _ _ p.1).0) | inr s ↦ clash p.0 (seen Str s.0 refl) ]

local_name : (k : Kind) → is_identifier k ≡ true → (is_identifier_name k ≡ true) × (is_reserved k ≡ false)
unfolding is_identifier
local_name k h = let p = and_parts _ _ h in (p.0, not-true _ p.1)

local_none : (t : Token) → is_identifier t.kind ≡ true → local t ≡ []
unfolding local
local_none t h = let p = local_name t.kind h in rw ((name_is_not t.kind p.0).str, p.1) refl

name_of : {ts rest : List Token} {t : Token} → L ts t rest → N ts t rest
name_of {t = t} l = one_as l (inl (local_name t.kind (one_is l)).0)

specifier_of : {ts m n : List Token} {x l : Token} → N ts x m → Alias x m l n → local l ≡ [] → ImportSpecifier ts (specified x l) n
specifier_of {x = x} r no_alias f = alone (one_as r (local_is x (one_is r) f))
specifier_of {l = l} r (an_alias w r') f = renamed r w (one_as r' (local_is l (one_is r') f))

name_starts : {ts rest : List Token} {t : Token} → N ts t rest → closes RCurly ts ≡ false
unfolding closes next
name_starts (one {t = t} (inl h)) = let p = name_is_not t.kind h in or_from _ _ p.rcurly (or_from _ _ p.eof p.undetermined)
name_starts (one (inr h)) = or_from _ _ (seen RCurly h.0 refl) (or_from _ _ (seen Eof h.0 refl) (seen Undetermined h.0 refl))

pub specifiers : Element RCurly specifier ImportSpecifier
unfolding specifier
specifiers = record { sound = sound; complete = complete; starts = starts }
  where
    sound : (e : ℕ) {ts : List Token} {a : Specifier} {rest : List Token} → Cleanly (specifier e ts) a rest → ImportSpecifier ts a rest
    sound e {ts = ts} y =
        took e ts name_right y λ x e₁ m r y₁. bound_of (alias x e₁ m) y₁ λ l e₂ n z y₂.
        added y₂ λ f y₃. done (ImportSpecifier ts) y₃ (λ _. specifier_of r (alias_sound x e₁ m z) f)

    complete : (e : ℕ) {ts : List Token} {a : Specifier} {rest : List Token} → ImportSpecifier ts a rest → Follow RCurly rest → Cleanly (specifier e ts) a rest
    complete e (alone {rest = rest} {l = l} r) f =
        takes e _ name_right (name_of r) λ e₁. binds _ (without_alias l e₁ rest (no_as rest f)) λ e₂. adds (local_none l (one_is r)) ends
    complete e (renamed {x = x} {l = l} r w r') f =
        takes e _ name_right r λ e₁. binds _ (with_alias x e₁ w (name_of r')) λ e₂. adds (local_none l (one_is r')) ends

    starts : {ts : List Token} {a : Specifier} {rest : List Token} → ImportSpecifier ts a rest → closes RCurly ts ≡ false
    starts (alone r) = name_starts (name_of r)
    starts (renamed r w r') = name_starts r

-- exports
out_of : {ts m n : List Token} {x y : Token} → N ts x m → Alias x m y n → ExportSpecifier ts (specified x y) n
out_of r no_alias = alone_out r
out_of r (an_alias w r') = renamed_out r w r'

pub exports : Element RCurly export_specifier ExportSpecifier
unfolding export_specifier
exports = record { sound = sound; complete = complete; starts = starts }
  where
    sound : (e : ℕ) {ts : List Token} {a : Specifier} {rest : List Token} → Cleanly (export_specifier e ts) a rest → ExportSpecifier ts a rest
    sound e {ts = ts} y =
        took e ts name_right y λ x e₁ m r y₁. bound_of (alias x e₁ m) y₁ λ l e₂ n z y₂.
        done (ExportSpecifier ts) y₂ (λ _. out_of r (alias_sound x e₁ m z))

    complete : (e : ℕ) {ts : List Token} {a : Specifier} {rest : List Token} → ExportSpecifier ts a rest → Follow RCurly rest → Cleanly (export_specifier e ts) a rest
    complete e (alone_out {rest = rest} {x = x} r) f = takes e _ name_right r λ e₁. binds _ (without_alias x e₁ rest (no_as rest f)) λ e₂. ends
    complete e (renamed_out {x = x} r w r') f = takes e _ name_right r λ e₁. binds _ (with_alias x e₁ w r') λ e₂. ends

    starts : {ts : List Token} {a : Specifier} {rest : List Token} → ExportSpecifier ts a rest → closes RCurly ts ≡ false
    starts (alone_out r) = name_starts r
    starts (renamed_out r w r') = name_starts r

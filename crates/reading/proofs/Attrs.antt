-- Attributes and the end of a clause.
use Rattle.std.proofs.Common.{◌≡◌, ℕ, ◌≤◌, true, false, eqb, List, [], ◌∷◌, length, refl, inl, inr, arith}
use Rattle.std.specs.Str.{bytes_eq}
use Rattle.std.proofs.lemmas.Bool.{and_parts, or_cases, or_left, or_right, or_from, both_ways, false_from_ne_true}
use Rattle.std.proofs.lemmas.Slice.Eq.{bytes_eq-Decides}
use Rattle.kinds.specs.declared.kind.Kind.{Kind}
use Rattle.kinds.specs.declared.kind.Kind.TheVariants.{Eof, Undetermined, RCurly, Semicolon, With, Assert}
use Rattle.kinds.specs.Numbers.{number}
use Rattle.kinds.specs.Classes.{is_keyword}
use Rattle.lexer.specs.declared.token.Token.{Token}
use Rattle.pages.specs.declared.fault.FaultKind.TheVariants.{NoString}
use Rattle.pages.specs.declared.rows.Attribute.{Attribute}
use Rattle.reading.specs.Ahead.{next, rest, at, attributes_follow}
use Rattle.reading.specs.Settings.{Setting}
use Rattle.reading.specs.Grammar.{One, one, Sign, Word, OneAttribute, attribute, Apart, apart_none, apart_more, Distinct, distinct_none, distinct_more, keys, Attributes, no_attributes, some_attributes, End, semicolon, at_eof, at_brace, at_line}
use Rattle.reading.specs.Steps.{ending}
use Rattle.reading.specs.Braces.{closes, braced}
use Rattle.reading.specs.Attributes.{key_text, repeated, repeats, attributes}
use Rattle.reading.specs.Attributes as reader
use Rattle.reading.specs.Main.{Cleanly}
use Rattle.reading.proofs.Clean.{took, takes, bound_of, binds, tested, passes, fails, stopped, done, ends, added, adds, undrawn, front_none, clash}
use Rattle.reading.proofs.OfKinds.{same_is, seen, not_same, name_is_not, one_as, one_is, word_right, key_right, colon_right, str_right, classed}
use Rattle.reading.proofs.Lists.{Follow, Element, curly, braced_sound, braced_complete}

module _ (text : List ℕ) where
  -- the keys before differ from each of the keys ks
  abbrev AllApart : List Attribute → List (List ℕ) → Type 0
  AllApart [] ks = Unit {0}
  AllApart (b ∷ before) ks = Apart (key_text text b) ks × AllApart before ks

  none : (before : List Attribute) → AllApart before []
  none [] = tt
  none (b ∷ before) = (apart_none, none before)

  -- one key more
  longer : (before : List Attribute) (a : Attribute) (ks : List (List ℕ)) → repeated text before a ≡ [] → AllApart before ks → AllApart before (key_text text a ∷ ks)
  unfolding repeated
  longer [] a ks e d = tt
  longer (b ∷ before) a ks e d =
      let p = undrawn (bytes_eq (key_text text b) (key_text text a)) _ _ e in
      (apart_more (λ q. both_ways _ p.0 ((bytes_eq-Decides (key_text text b) (key_text text a)).1 q)) d.0, longer before a ks p.1 d.1)

  apart_first : {y x : List ℕ} {ks : List (List ℕ)} → Apart y (x ∷ ks) → (y ≡ x → ⊥) × Apart y ks
  apart_first (apart_more n d) = (n, d)

  shorter : (before : List Attribute) (a : Attribute) (ks : List (List ℕ)) → AllApart before (key_text text a ∷ ks) → (repeated text before a ≡ []) × AllApart before ks
  unfolding repeated
  shorter [] a ks d = (refl, tt)
  shorter (b ∷ before) a ks d =
      let p = apart_first d.0 in
      let q = shorter before a ks d.1 in
      (rw (false_from_ne_true _ (λ e. p.0 ((bytes_eq-Decides (key_text text b) (key_text text a)).0 e))) q.0, (p.1, q.1))

  distinct_of : (before l : List Attribute) → repeats text before l ≡ [] → AllApart before (keys text l) × Distinct (keys text l)
  unfolding repeats
  distinct_of before [] e = (none before, distinct_none)
  distinct_of before (a ∷ l) e =
      let p = front_none _ _ e in
      let q = distinct_of (a ∷ before) l p.1 in (longer before a (keys text l) p.0 q.0.1, distinct_more q.0.0 q.1)

  of_distinct : (before l : List Attribute) → AllApart before (keys text l) → Distinct (keys text l) → repeats text before l ≡ []
  unfolding repeats
  of_distinct before [] d u = refl
  of_distinct before (a ∷ l) d (distinct_more n u) =
      let p = shorter before a (keys text l) d in rw p.0 (of_distinct (a ∷ before) l (n, p.1) u)

-- one attribute
elements : Element RCurly reader.attribute OneAttribute
unfolding reader.attribute closes next
elements = record { sound = sound; complete = complete; starts = starts }
  where
    sound : (e : ℕ) {ts : List Token} {a : Attribute} {rest : List Token} → Cleanly (reader.attribute e ts) a rest → OneAttribute ts a rest
    sound e {ts = ts} y =
        took e ts key_right y λ k e₁ m r y₁. took e₁ m colon_right y₁ λ c e₂ n s y₂. took e₂ n (str_right NoString) y₂ λ v e₃ q s' y₃.
        done (OneAttribute ts) y₃ (λ _. attribute r s s')

    complete : (e : ℕ) {ts : List Token} {a : Attribute} {rest : List Token} → OneAttribute ts a rest → Follow RCurly rest → Cleanly (reader.attribute e ts) a rest
    complete e (attribute r s s') f = takes e _ key_right r λ e₁. takes e₁ _ colon_right s λ e₂. takes e₂ _ (str_right NoString) s' λ e₃. ends

    starts : {ts : List Token} {a : Attribute} {rest : List Token} → OneAttribute ts a rest → closes RCurly ts ≡ false
    starts (attribute (one {t = t} (inl h)) s s') = let p = name_is_not t.kind h in or_from _ _ p.rcurly (or_from _ _ p.eof p.undetermined)
    starts (attribute (one (inr h)) s s') = or_from _ _ (seen RCurly h refl) (or_from _ _ (seen Eof h refl) (seen Undetermined h refl))

-- the keyword before them
pub keyword : (t : Token) → attributes_follow t ≡ true → (is_keyword t.kind ≡ true) × (eqb (number Eof) (number t.kind) ≡ false)
unfolding attributes_follow
keyword t h = elim (or_cases _ _ h) [
  | inl p ↦ let q = same_is t.kind With p in (rw q classed.with_keyword, rw q refl)
  | inr p ↦ let q = same_is t.kind Assert (and_parts _ _ p).0 in (rw q classed.assert_keyword, rw q refl)
]

unescaped_word : {ts m : List Token} {k : Token} → One (λ t. t.escaped ≡ false) ts k m → Word (next ts).kind ts k m
unfolding next
unescaped_word (one h) = one (refl, h)

module _ (w : Setting) (text : List ℕ) where
  pub attributes_sound : (e : ℕ) (ts : List Token) {l : List Attribute} {rest : List Token}
      → Cleanly (attributes w text e ts) l rest → Attributes text ts l rest × (length l ≤ w.attributes)
  unfolding attributes
  attributes_sound e ts y = tested y
      (λ h y₁. let q = keyword (next ts) h in
      took e ts (word_right (next ts).kind q.0 q.1) y₁ λ k e₁ m r y₂. bound_of (braced reader.attribute RCurly w.attributes e₁ m) y₂ λ l e₂ n z y₃.
      let d = braced_sound curly elements w.attributes e₁ m z in
      added y₃ λ f y₄. done Goal y₄ (λ _. (some_attributes h (one_as r (one_is r).1) d.0 (distinct_of text [] l f).1, d.1)))
      (λ h y₁. done Goal y₁ (λ _. (no_attributes h, omega arith)))
    where
      Goal : List Attribute → List Token → Type 0
      Goal l q = Attributes text ts l q × (length l ≤ w.attributes)

  pub attributes_complete : (e : ℕ) {ts : List Token} {l : List Attribute} {rest : List Token}
      → Attributes text ts l rest → length l ≤ w.attributes → Cleanly (attributes w text e ts) l rest
  unfolding attributes
  attributes_complete e (no_attributes h) f = fails _ h ends
  attributes_complete e (some_attributes {ts = ts} {l = l} h k d u) f =
      let q = keyword (next ts) h in
      passes _ h (takes e _ (word_right (next ts).kind q.0 q.1) (unescaped_word k) λ e₁.
      binds _ (braced_complete curly elements w.attributes e₁ d f) λ e₂.
      adds (of_distinct text [] l tt u) ends)

-- the end
sign_taken : (k : Kind) (ts : List Token) → at k ts ≡ true → eqb (number Eof) (number k) ≡ false → Sign k ts (next ts) (rest ts)
unfolding next rest
sign_taken k [] h z = clash (seen k refl z) h
sign_taken k (t ∷ ts) h z = one (same_is t.kind k h)

pub end_sound : (e : ℕ) (ts : List Token) {u : Unit {0}} {q : List Token} → Cleanly (ending e ts) u q → End ts q
unfolding ending
end_sound e ts y = tested y
    (λ h y₁. done (λ _ q. End ts q) y₁ (λ _. semicolon (sign_taken Semicolon ts h refl)))
    (λ n y₁. tested y₁
    (λ h y₂. done (λ _ q. End ts q) y₂ (λ _. elim (or_cases _ _ h) [
      | inl p ↦ at_eof (same_is (next ts).kind Eof p)
      | inr p ↦ elim (or_cases _ _ p) [
        | inl r ↦ at_brace (same_is (next ts).kind RCurly r)
        | inr r ↦ at_line r (λ k. clash n (seen Semicolon k refl))
      ]
    ]))
    (λ _ y₂. stopped y₂))

pub end_complete : (e : ℕ) {ts q : List Token} → End ts q → Cleanly (ending e ts) tt q
unfolding ending next rest
end_complete e (semicolon (one h)) = passes _ (seen Semicolon h refl) ends
end_complete e (at_eof h) = fails _ (seen Semicolon h refl) (passes _ (or_left _ _ (seen Eof h refl)) ends)
end_complete e (at_brace h) = fails _ (seen Semicolon h refl) (passes _ (or_right _ _ (or_left _ _ (seen RCurly h refl))) ends)
end_complete e (at_line {ts = ts} l n) = fails _ (not_same Semicolon (next ts).kind n) (passes _ (or_right (at Eof ts) _ (or_right (at RCurly ts) _ l)) ends)

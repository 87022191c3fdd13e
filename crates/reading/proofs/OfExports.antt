-- Export clauses.
use Rattle.std.proofs.Common.{◌≡◌, ℕ, zero, suc, ◌+◌, ◌≤◌, false, List, [], ◌∷◌, length, Some, None, Ok, Err, Result, refl, arith}
use Rattle.std.specs.List.{slice_get}
use Rattle.std.proofs.lemmas.Option.{slice_get_past}
use Rattle.std.proofs.lemmas.Bool.{or_parts, or_from}
use Rattle.kinds.specs.declared.kind.Kind.TheVariants.{As, From, Star, LCurly, RCurly, Default}
use Rattle.lexer.specs.declared.token.Token.{Token}
use Rattle.lexer.specs.Tokens.{part_of}
use Rattle.pages.specs.declared.fault.FaultKind.TheVariants.{Foreign}
use Rattle.pages.specs.declared.rows.Name.{Name}
use Rattle.pages.specs.declared.rows.Specifier.{Specifier}
use Rattle.pages.specs.declared.rows.Attribute.{Attribute}
use Rattle.reading.specs.declared.naming.Naming.{Naming}
use Rattle.reading.specs.Ahead.{clause_follows}
use Rattle.reading.specs.Settings.{Setting}
use Rattle.reading.specs.Hosts.{Host}
use Rattle.reading.specs.Readings.{reserved_text, Clause, all_from, names_from, tokens_at, Fits}
use Rattle.reading.specs.Grammar.{Word, Locals, locals_none, locals_more, Sourced, sourced, ExportClause, all_of, all_as, some_of, own, by_declaration, by_default}
use Rattle.reading.specs.Steps.{Out, ending}
use Rattle.reading.specs.Braces.{braced}
use Rattle.reading.specs.Attributes.{attributes}
use Rattle.reading.specs.Exports.{export_specifier, export_local, locals, export_all, export_braces, room_for, declared_by, defaulted_by, export_clause}
use Rattle.reading.specs.Exports as reader
use Rattle.reading.specs.Main.{Cleanly}
use Rattle.reading.proofs.Clean.{took, takes, bound_of, binds, tested, passes, fails, stopped, stopped_at, done, ends, added, adds, faulty, undrawn, front_none}
use Rattle.reading.proofs.OfKinds.{star_right, as_right, default_right, name_right, sign_at, word_at}
use Rattle.reading.proofs.Lists.{curly, braced_sound, braced_complete}
use Rattle.reading.proofs.Specifiers.{exports}
use Rattle.reading.proofs.Forms.{source_right, from_at, braces_at}
use Rattle.reading.proofs.Attrs.{attributes_sound, attributes_complete, end_sound, end_complete}

-- local names
local_is : (text : List ℕ) (x : Name) → export_local text x ≡ [] → (x.string ≡ false) × (reserved_text (part_of text x.text) ≡ false)
unfolding export_local
local_is text x h = let p = undrawn x.string _ _ h in (p.0, (undrawn (reserved_text (part_of text x.text)) _ _ p.1).0)

local_none : (text : List ℕ) (x : Name) → x.string ≡ false → reserved_text (part_of text x.text) ≡ false → export_local text x ≡ []
unfolding export_local
local_none text x p q = rw (p, q) refl

locals_of : (text : List ℕ) (l : List Specifier) → locals text l ≡ [] → Locals text l
unfolding locals
locals_of text [] e = locals_none
locals_of text (s ∷ l) e = let p = front_none _ _ e in let q = local_is text s.name p.0 in locals_more q.0 q.1 (locals_of text l p.1)

of_locals : (text : List ℕ) (l : List Specifier) → Locals text l → locals text l ≡ []
unfolding locals
of_locals text [] d = refl
of_locals text (s ∷ l) (locals_more p q d) = rw (local_none text s.name p q) (of_locals text l d)

-- room for names
room_sound : (ns : List Token) (k : ℕ) {o : Out Clause} {c : Clause} {r : List Token} → Cleanly (room_for (slice_get ns k) o) c r → (length ns ≤ k) × Cleanly o c r
unfolding room_for
room_sound [] k y = (omega arith, y)
room_sound (t ∷ ns) zero y = stopped y
room_sound (t ∷ ns) (suc k) y = let p = room_sound ns k y in (omega (arith, p.0), p.1)

room_complete : (ns : List Token) (k : ℕ) {o : Out Clause} {c : Clause} {r : List Token} → length ns ≤ k → Cleanly o c r → Cleanly (room_for (slice_get ns k) o) c r
unfolding room_for
room_complete ns k h y = rw (slice_get_past ns k h) y

module _ (w : Setting) (text : List ℕ) where
  -- from S, attributes, end
  via_source : (f : Token → List Attribute → Clause) (e : ℕ) (ts : List Token) {a : Clause} {rest : List Token} (P : Clause → List Token → Type 0)
      → Cleanly (reader.sourced w text f e ts) a rest
      → ((s : Token) (l : List Attribute) (n : List Token) → Sourced text ts s l n → length l ≤ w.attributes → P (f s l) n) → P a rest
  unfolding reader.sourced
  via_source f e ts P y k = took e ts source_right y λ s e₁ m r y₁. bound_of (attributes w text e₁ m) y₁ λ l e₂ n z y₂. bound_of (ending e₂ n) y₂ λ u e₃ q z' y₃.
      let r' = attributes_sound w text e₁ m z in done P y₃ (λ _. k s l q (sourced r r'.0 (end_sound e₂ n z')) r'.1)

  source_via : (f : Token → List Attribute → Clause) (e : ℕ) {ts rest : List Token} {s : Token} {l : List Attribute}
      → Sourced text ts s l rest → length l ≤ w.attributes → Cleanly (reader.sourced w text f e ts) (f s l) rest
  unfolding reader.sourced
  source_via f e (sourced r a d) h = takes e _ source_right r λ e₁. binds _ (attributes_complete w text e₁ a h) λ e₂. binds _ (end_complete e₂ d) λ e₃. ends

  module _ (h : Host) (all : List Token) where
    abbrev Fit : ℕ → List Token → Clause → List Token → Type 0
    Fit n ts c rest = ExportClause text h all n ts c rest × Fits w c

    default_sound : (a : Result (ℕ × ℕ × Naming) ℕ) (n e : ℕ) {ts : List Token} {d : Token} (m : List Token) {c : Clause} {rest : List Token}
        → Word Default ts d m → h.defaulting all (n + 1) ≡ a → Cleanly (defaulted_by all d a e m) c rest → Fit n ts c rest
    unfolding defaulted_by
    default_sound (Err c) n e m r q y = stopped y
    default_sound (Ok a) n e {ts = ts} m r q y =
        done (Fit n ts) y (λ _. (by_default r q, record { specifiers = omega arith; names = omega arith; attributes = omega arith }))

    declared_sound : (a : Result (ℕ × List ℕ) ℕ) (n e : ℕ) (ts : List Token) {c : Clause} {rest : List Token}
        → clause_follows ts ≡ false → h.declaration all n ≡ a → Cleanly (declared_by w all a e ts) c rest → Fit n ts c rest
    unfolding declared_by
    declared_sound (Err c) n e ts f q y = stopped y
    declared_sound (Ok a) n e ts f q y =
        let p = room_sound (tokens_at all a.1) w.names y in
        done (Fit n ts) p.1 (λ _. (by_declaration f q, record { specifiers = omega arith; names = p.0; attributes = omega arith }))

    pub export_sound : (n e : ℕ) (ts : List Token) {c : Clause} {rest : List Token} → Cleanly (export_clause w text h all n e ts) c rest → Fit n ts c rest
    unfolding export_clause export_all export_braces clause_follows
    export_sound n e ts y = tested y
        (λ _ y₁. took e ts star_right y₁ λ k e₁ m s y₂. tested y₂
        (λ _ y₃. took e₁ m as_right y₃ λ a e₂ o r y₄. took e₂ o name_right y₄ λ x e₃ p r' y₅.
        via_source (all_from (Some x)) e₃ p (Fit n ts) y₅ (λ s' l q c u. (all_as s r r' c, record { specifiers = omega arith; names = omega arith; attributes = u })))
        (λ _ y₃. via_source (all_from None) e₁ m (Fit n ts) y₃ (λ s' l q c u. (all_of s c, record { specifiers = omega arith; names = omega arith; attributes = u }))))
        (λ n₁ y₁. tested y₁
        (λ _ y₂. bound_of (braced export_specifier RCurly w.names e ts) y₂ λ l e₁ m z y₃.
        let r = braced_sound curly exports w.names e ts z in
        tested y₃
        (λ _ y₄. via_source (names_from l) e₁ m (Fit n ts) y₄ (λ s' k q c u. (some_of r.0 c, record { specifiers = r.1; names = omega arith; attributes = u })))
        (λ g y₄. added y₄ λ o y₅. bound_of (ending e₁ m) y₅ λ d e₂ q z' y₆.
        done (Fit n ts) y₆ (λ _. (own r.0 g (locals_of text l o) (end_sound e₁ m z'), record { specifiers = r.1; names = omega arith; attributes = omega arith }))))
        (λ n₂ y₂. tested y₂
        (λ _ y₃. took e ts default_right y₃ λ d e₁ m r y₄. default_sound _ n e₁ m r refl y₄)
        (λ n₃ y₃. tested y₃ (λ _ y₄. stopped_at Foreign e ts y₄)
        (λ n₄ y₄. tested y₄ (λ _ y₅. added y₅ λ o _. faulty o)
        (λ n₅ y₅. declared_sound _ n e ts (or_from _ _ n₁ (or_from _ _ n₂ (or_from _ _ n₃ (or_from _ _ n₄ n₅)))) refl y₅)))))

    pub export_complete : (n e : ℕ) {ts : List Token} {c : Clause} {rest : List Token} → ExportClause text h all n ts c rest → Fits w c → Cleanly (export_clause w text h all n e ts) c rest
    unfolding export_clause export_all export_braces declared_by defaulted_by clause_follows
    export_complete n e (all_of s (sourced r a d)) u = passes _ (sign_at Star s refl) (takes e _ star_right s λ e₁.
        fails _ (from_at As r refl) (source_via (all_from None) e₁ (sourced r a d) u.attributes))
    export_complete n e (all_as {x = x} s k r c) u = passes _ (sign_at Star s refl) (takes e _ star_right s λ e₁.
        passes _ (word_at As k refl) (takes e₁ _ as_right k λ e₂. takes e₂ _ name_right r λ e₃. source_via (all_from (Some x)) e₃ c u.attributes))
    export_complete n e (some_of {l = l} b (sourced r a d)) u = fails _ (braces_at Star b refl) (passes _ (braces_at LCurly b refl)
        (binds _ (braced_complete curly exports w.names e b u.specifiers) λ e₁.
        passes _ (from_at From r refl) (source_via (names_from l) e₁ (sourced r a d) u.attributes)))
    export_complete n e (own {l = l} b g o d) u = fails _ (braces_at Star b refl) (passes _ (braces_at LCurly b refl)
        (binds _ (braced_complete curly exports w.names e b u.specifiers) λ e₁.
        fails _ g (adds (of_locals text l o) (binds _ (end_complete e₁ d) λ e₂. ends))))
    export_complete n e (by_declaration {is = is} f q) u =
        let p₁ = or_parts _ _ f in let p₂ = or_parts _ _ p₁.1 in let p₃ = or_parts _ _ p₂.1 in let p₄ = or_parts _ _ p₃.1 in
        fails _ p₁.0 (fails _ p₂.0 (fails _ p₃.0 (fails _ p₄.0 (fails _ p₄.1 (rw q (room_complete (tokens_at all is) w.names u.names ends))))))
    export_complete n e (by_default v q) u = fails _ (word_at Star v refl) (fails _ (word_at LCurly v refl) (passes _ (word_at Default v refl)
        (takes e _ default_right v λ e₁. rw q ends)))

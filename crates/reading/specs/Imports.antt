-- Reading imports. The reader goes further than the grammar, and draws faults there.
use Rattle.std.specs.Prelude.{ℕ, ◌-◌, cond, ◌&&◌, List, [], ◌∷◌, Some, None, Option}
use Rattle.kinds.specs.declared.kind.Kind.TheVariants.{Str, As, From, Star, Comma, LCurly, RCurly, Eq, Defer, Source, Import}
use Rattle.kinds.specs.Numbers.{same}
use Rattle.kinds.specs.Classes.{is_reserved, is_binding}
use Rattle.lexer.specs.declared.token.Token.{Token}
use Rattle.pages.specs.declared.fault.Fault.{Fault}
use Rattle.pages.specs.declared.fault.FaultKind.TheVariants.{Expected, Unexpected, Foreign, DeferBraces, DeferDefault, SourceForm, ImportString, ImportReserved}
use Rattle.pages.specs.declared.rows.Specifier.{Specifier}
use Rattle.pages.specs.declared.page.Phase.{Phase}
use Rattle.pages.specs.declared.page.Phase.TheVariants as phase
use Rattle.pages.specs.Faults.{fault_at}
use Rattle.reading.specs.Ahead.{next, at}
use Rattle.reading.specs.Settings.{Setting}
use Rattle.reading.specs.Readings.{specified, Starred, Form, Clause, imported}
use Rattle.reading.specs.Steps.{got, Reader, stop_at, add, bind, test, esc, word, str, binding, name, ending}
use Rattle.reading.specs.Braces.{braced}
use Rattle.reading.specs.Attributes.{attributes}

-- what is wrong with a local name
unfoldable pub local : Token → List Fault
local t =
    cond (same t.kind Str) (fault_at ImportString t.span ∷ [])
    (cond (is_reserved t.kind) (fault_at ImportReserved t.span ∷ []) [])

-- `as` and a name, or the name x itself
unfoldable pub alias : Token → Reader Token
alias x e ts = test (at As ts) (bind (word As e ts) λ _ e₁ m. name e₁ m) (got x [] e ts)

unfoldable pub specifier : Reader Specifier
specifier e ts = bind (name e ts) λ x e₁ m. bind (alias x e₁ m) λ l e₂ n. add (local l) (got (specified x l) [] e₂ n)

-- from "m"
unfoldable pub from_source : Reader Token
from_source e ts = bind (word From e ts) λ _ e₁ m. str Unexpected e₁ m

-- * as b
unfoldable pub star_alias : Reader Starred
star_alias e ts =
    bind (word Star e ts) λ s e₁ m. bind (word As e₁ m) λ _ e₂ n. bind (binding Unexpected e₂ n) λ b e₃ r.
    got (record { star = s; local = b }) [] e₃ r

-- * as b from "m", and { .. } from "m"
unfoldable pub star_with_source : Reader (Starred × Token)
star_with_source e ts = bind (star_alias e ts) λ b e₁ m. bind (from_source e₁ m) λ s e₂ n. got (b, s) [] e₂ n

unfoldable pub braces_with_source : ℕ → Reader (List Specifier × Token)
braces_with_source room e ts = bind (braced specifier RCurly room e ts) λ l e₁ m. bind (from_source e₁ m) λ s e₂ n. got (l, s) [] e₂ n

abbrev pub starred : Phase → Option Token → Starred × Token → Form
starred ph d p = record { phase = ph; default = d; namespace = Some p.0; specifiers = []; source = p.1 }

abbrev pub listed : Phase → Option Token → List Specifier × Token → Form
listed ph d p = record { phase = ph; default = d; namespace = None; specifiers = p.0; source = p.1 }

abbrev pub single : Phase → Option Token → Token → Form
single ph d s = record { phase = ph; default = d; namespace = None; specifiers = []; source = s }

-- the room that a default leaves for what stands in braces
abbrev pub room_by : Setting → Option Token → ℕ
room_by w None = w.names
room_by w (Some b) = w.names - 1

unfoldable pub via_star : Phase → Option Token → Reader Form
via_star ph d e ts = bind (star_with_source e ts) λ p e₁ m. got (starred ph d p) [] e₁ m

unfoldable pub via_braces : Setting → Phase → Option Token → Reader Form
via_braces w ph d e ts = bind (braces_with_source (room_by w d) e ts) λ p e₁ m. got (listed ph d p) [] e₁ m

-- after the default b
unfoldable pub after_default : Setting → Phase → Token → Reader Form
after_default w ph b e ts =
    test (at Comma ts)
    (bind (word Comma e ts) λ _ e₁ m.
    test (at Star m) (via_star ph (Some b) e₁ m)
    (test (at LCurly m) (via_braces w ph (Some b) e₁ m) (stop_at Unexpected e₁ m)))
    (bind (from_source e ts) λ s e₁ m. got (single ph (Some b) s) [] e₁ m)

-- after `defer`, which may be the default's name
unfoldable pub after_defer : Setting → Token → Reader Form
after_defer w d e ts =
    test (at Star ts) (add (esc d) (via_star phase.Defer None e ts))
    (test (at LCurly ts) (add (fault_at DeferBraces d.span ∷ []) (add (esc d) (via_braces w phase.Defer None e ts)))
    (test (at From ts) (after_default w phase.Evaluation d e ts)
    (test (at As ts) (after_default w phase.Evaluation d e ts)
    (test (is_binding (next ts).kind)
    (add (fault_at DeferDefault d.span ∷ [])
    (add (esc d) (bind (binding Unexpected e ts) λ b e₁ m. after_default w phase.Defer b e₁ m)))
    (after_default w phase.Evaluation d e ts)))))

-- after `source b`, where b may be the From after a default with the name `source`
unfoldable pub after_source_name : Token → Token → Reader Form
after_source_name d b e ts =
    test (same b.kind From && at Str ts)
    (add (esc b) (bind (str Unexpected e ts) λ s e₁ m. got (single phase.Evaluation (Some d) s) [] e₁ m))
    (add (esc d) (bind (from_source e ts) λ s e₁ m. got (single phase.Source (Some b) s) [] e₁ m))

-- after `source`, which may be the default's name
unfoldable pub after_source : Setting → Token → Reader Form
after_source w d e ts =
    test (is_binding (next ts).kind) (bind (binding Unexpected e ts) λ b e₁ m. after_source_name d b e₁ m)
    (test (at Star ts) (add (fault_at SourceForm d.span ∷ []) (add (esc d) (via_star phase.Source None e ts)))
    (test (at LCurly ts) (add (fault_at SourceForm d.span ∷ []) (add (esc d) (via_braces w phase.Source None e ts)))
    (after_default w phase.Evaluation d e ts)))

-- after a binding identifier
unfoldable pub after_binding : Setting → Token → Reader Form
after_binding w b e ts =
    test (at Eq ts) (stop_at Foreign e ts)
    (test (same b.kind Defer) (after_defer w b e ts)
    (test (same b.kind Source) (after_source w b e ts) (after_default w phase.Evaluation b e ts)))

-- what follows `import`, up to the module
unfoldable pub form : Setting → Reader Form
form w e ts =
    test (at Str ts) (bind (str Unexpected e ts) λ s e₁ m. got (single phase.Evaluation None s) [] e₁ m)
    (test (at Star ts) (via_star phase.Evaluation None e ts)
    (test (at LCurly ts) (via_braces w phase.Evaluation None e ts)
    (bind (binding Expected e ts) λ b e₁ m. after_binding w b e₁ m)))

unfoldable pub importing : Setting → List ℕ → Reader Clause
importing w text e ts =
    bind (word Import e ts) λ _ e₁ m.
    bind (form w e₁ m) λ f e₂ n.
    bind (attributes w text e₂ n) λ l e₃ o.
    bind (ending e₃ o) λ _ e₄ r.
    got (imported f l) [] e₄ r

-- The kinds by number.
use Rattle.std.specs.Prelude.{◌≡◌, ℕ, Bool, List, [], ◌∷◌, get_or, Option, ◌==◌, slice_index_or, refl}
use Rattle.std.proofs.Common.{sym, ap, ◌∙◌}
use Rattle.std.specs.Cmp.{IsPartialEquivalence, partial_equiv_from_equiv}
use Rattle.std.proofs.lemmas.Cmp.{nat_eq_equiv, on_equiv}
use Rattle.std.specs.List.{slice_get}
use Rattle.kinds.specs.declared.kind.Kind.{Kind}
use Rattle.kinds.specs.declared.kind.Kind.TheVariants.{Eof, Undetermined, Skip, HashbangComment, Ident, Await, Break, Case, Catch, Class, Const, Continue, Debugger, Default, Delete, Do, Else, Enum, Export, Extends, Finally, For, Function, If, Import, In, Instanceof, New, Return, Super, Switch, This, Throw, Try, Typeof, Var, Void, While, With, Async, From, Get, Meta, Of, Set, Target, Accessor, Source, Defer, Abstract, As, Asserts, Assert, Any, Boolean, Constructor, Declare, Infer, Intrinsic, Is, KeyOf, Module, Namespace, Never, Out, Readonly, Require, Number, Object, Satisfies, String, Symbol, «Type», Undefined, Unique, Using, Unknown, Global, BigInt, Override, Implements, Interface, Let, Package, Private, Protected, Public, Static, Yield, True, False, Null, Amp, Amp2, Amp2Eq, AmpEq, Bang, Caret, CaretEq, Colon, Comma, Dot, Dot3, Eq, Eq2, Eq3, GtEq, LAngle, LBrack, LCurly, LParen, LtEq, Minus, Minus2, MinusEq, Neq, Neq2, Percent, PercentEq, Pipe, Pipe2, Pipe2Eq, PipeEq, Plus, Plus2, PlusEq, Question, Question2, Question2Eq, QuestionDot, RAngle, RBrack, RCurly, RParen, Semicolon, ShiftLeft, ShiftLeftEq, ShiftRight, ShiftRight3, ShiftRight3Eq, ShiftRightEq, Slash, SlashEq, Star, Star2, Star2Eq, StarEq, Tilde, Arrow, Decimal, Float, Binary, Octal, Hex, PositiveExponential, NegativeExponential, DecimalBigInt, BinaryBigInt, OctalBigInt, HexBigInt, Str, RegExp, NoSubstitutionTemplate, TemplateHead, TemplateMiddle, TemplateTail, PrivateIdentifier, JSXText, At}

abbrev pub number : Kind → ℕ
number Eof = 0
number Undetermined = 1
number Skip = 2
number HashbangComment = 3
number Ident = 4
number Await = 5
number Break = 6
number Case = 7
number Catch = 8
number Class = 9
number Const = 10
number Continue = 11
number Debugger = 12
number Default = 13
number Delete = 14
number Do = 15
number Else = 16
number Enum = 17
number Export = 18
number Extends = 19
number Finally = 20
number For = 21
number Function = 22
number If = 23
number Import = 24
number In = 25
number Instanceof = 26
number New = 27
number Return = 28
number Super = 29
number Switch = 30
number This = 31
number Throw = 32
number Try = 33
number Typeof = 34
number Var = 35
number Void = 36
number While = 37
number With = 38
number Async = 39
number From = 40
number Get = 41
number Meta = 42
number Of = 43
number Set = 44
number Target = 45
number Accessor = 46
number Source = 47
number Defer = 48
number Abstract = 49
number As = 50
number Asserts = 51
number Assert = 52
number Any = 53
number Boolean = 54
number Constructor = 55
number Declare = 56
number Infer = 57
number Intrinsic = 58
number Is = 59
number KeyOf = 60
number Module = 61
number Namespace = 62
number Never = 63
number Out = 64
number Readonly = 65
number Require = 66
number Number = 67
number Object = 68
number Satisfies = 69
number String = 70
number Symbol = 71
number «Type» = 72
number Undefined = 73
number Unique = 74
number Using = 75
number Unknown = 76
number Global = 77
number BigInt = 78
number Override = 79
number Implements = 80
number Interface = 81
number Let = 82
number Package = 83
number Private = 84
number Protected = 85
number Public = 86
number Static = 87
number Yield = 88
number True = 89
number False = 90
number Null = 91
number Amp = 92
number Amp2 = 93
number Amp2Eq = 94
number AmpEq = 95
number Bang = 96
number Caret = 97
number CaretEq = 98
number Colon = 99
number Comma = 100
number Dot = 101
number Dot3 = 102
number Eq = 103
number Eq2 = 104
number Eq3 = 105
number GtEq = 106
number LAngle = 107
number LBrack = 108
number LCurly = 109
number LParen = 110
number LtEq = 111
number Minus = 112
number Minus2 = 113
number MinusEq = 114
number Neq = 115
number Neq2 = 116
number Percent = 117
number PercentEq = 118
number Pipe = 119
number Pipe2 = 120
number Pipe2Eq = 121
number PipeEq = 122
number Plus = 123
number Plus2 = 124
number PlusEq = 125
number Question = 126
number Question2 = 127
number Question2Eq = 128
number QuestionDot = 129
number RAngle = 130
number RBrack = 131
number RCurly = 132
number RParen = 133
number Semicolon = 134
number ShiftLeft = 135
number ShiftLeftEq = 136
number ShiftRight = 137
number ShiftRight3 = 138
number ShiftRight3Eq = 139
number ShiftRightEq = 140
number Slash = 141
number SlashEq = 142
number Star = 143
number Star2 = 144
number Star2Eq = 145
number StarEq = 146
number Tilde = 147
number Arrow = 148
number Decimal = 149
number Float = 150
number Binary = 151
number Octal = 152
number Hex = 153
number PositiveExponential = 154
number NegativeExponential = 155
number DecimalBigInt = 156
number BinaryBigInt = 157
number OctalBigInt = 158
number HexBigInt = 159
number Str = 160
number RegExp = 161
number NoSubstitutionTemplate = 162
number TemplateHead = 163
number TemplateMiddle = 164
number TemplateTail = 165
number PrivateIdentifier = 166
number JSXText = 167
number At = 168

-- the kinds in the order of their numbers
abbrev pub kinds : List Kind
kinds =
    Eof ∷ Undetermined ∷ Skip ∷ HashbangComment ∷ Ident ∷ Await ∷ Break ∷ Case ∷ Catch ∷ Class ∷ Const ∷
    Continue ∷ Debugger ∷ Default ∷ Delete ∷ Do ∷ Else ∷ Enum ∷ Export ∷ Extends ∷ Finally ∷ For ∷ Function ∷
    If ∷ Import ∷ In ∷ Instanceof ∷ New ∷ Return ∷ Super ∷ Switch ∷ This ∷ Throw ∷ Try ∷ Typeof ∷ Var ∷ Void ∷
    While ∷ With ∷ Async ∷ From ∷ Get ∷ Meta ∷ Of ∷ Set ∷ Target ∷ Accessor ∷ Source ∷ Defer ∷ Abstract ∷ As ∷
    Asserts ∷ Assert ∷ Any ∷ Boolean ∷ Constructor ∷ Declare ∷ Infer ∷ Intrinsic ∷ Is ∷ KeyOf ∷ Module ∷
    Namespace ∷ Never ∷ Out ∷ Readonly ∷ Require ∷ Number ∷ Object ∷ Satisfies ∷ String ∷ Symbol ∷ «Type» ∷
    Undefined ∷ Unique ∷ Using ∷ Unknown ∷ Global ∷ BigInt ∷ Override ∷ Implements ∷ Interface ∷ Let ∷ Package
    ∷ Private ∷ Protected ∷ Public ∷ Static ∷ Yield ∷ True ∷ False ∷ Null ∷ Amp ∷ Amp2 ∷ Amp2Eq ∷ AmpEq ∷ Bang
    ∷ Caret ∷ CaretEq ∷ Colon ∷ Comma ∷ Dot ∷ Dot3 ∷ Eq ∷ Eq2 ∷ Eq3 ∷ GtEq ∷ LAngle ∷ LBrack ∷ LCurly ∷ LParen
    ∷ LtEq ∷ Minus ∷ Minus2 ∷ MinusEq ∷ Neq ∷ Neq2 ∷ Percent ∷ PercentEq ∷ Pipe ∷ Pipe2 ∷ Pipe2Eq ∷ PipeEq ∷
    Plus ∷ Plus2 ∷ PlusEq ∷ Question ∷ Question2 ∷ Question2Eq ∷ QuestionDot ∷ RAngle ∷ RBrack ∷ RCurly ∷
    RParen ∷ Semicolon ∷ ShiftLeft ∷ ShiftLeftEq ∷ ShiftRight ∷ ShiftRight3 ∷ ShiftRight3Eq ∷ ShiftRightEq ∷
    Slash ∷ SlashEq ∷ Star ∷ Star2 ∷ Star2Eq ∷ StarEq ∷ Tilde ∷ Arrow ∷ Decimal ∷ Float ∷ Binary ∷ Octal ∷ Hex
    ∷ PositiveExponential ∷ NegativeExponential ∷ DecimalBigInt ∷ BinaryBigInt ∷ OctalBigInt ∷ HexBigInt ∷ Str
    ∷ RegExp ∷ NoSubstitutionTemplate ∷ TemplateHead ∷ TemplateMiddle ∷ TemplateTail ∷ PrivateIdentifier ∷
    JSXText ∷ At ∷ []

-- the kind of a number, if it has one
abbrev pub kind_at : ℕ → Option Kind
kind_at n = slice_get kinds n

-- whether two kinds are one
unfoldable pub same : Kind → Kind → Bool
same a b = number a == number b

-- what `==` owes to those who use it
pub same_laws : IsPartialEquivalence same
unfolding same
same_laws = partial_equiv_from_equiv (on_equiv number nat_eq_equiv)

-- A kind stands in the list at its number.
pub back : (k : Kind) → slice_index_or kinds (number k) Eof ≡ k
back Eof = refl
back Undetermined = refl
back Skip = refl
back HashbangComment = refl
back Ident = refl
back Await = refl
back Break = refl
back Case = refl
back Catch = refl
back Class = refl
back Const = refl
back Continue = refl
back Debugger = refl
back Default = refl
back Delete = refl
back Do = refl
back Else = refl
back Enum = refl
back Export = refl
back Extends = refl
back Finally = refl
back For = refl
back Function = refl
back If = refl
back Import = refl
back In = refl
back Instanceof = refl
back New = refl
back Return = refl
back Super = refl
back Switch = refl
back This = refl
back Throw = refl
back Try = refl
back Typeof = refl
back Var = refl
back Void = refl
back While = refl
back With = refl
back Async = refl
back From = refl
back Get = refl
back Meta = refl
back Of = refl
back Set = refl
back Target = refl
back Accessor = refl
back Source = refl
back Defer = refl
back Abstract = refl
back As = refl
back Asserts = refl
back Assert = refl
back Any = refl
back Boolean = refl
back Constructor = refl
back Declare = refl
back Infer = refl
back Intrinsic = refl
back Is = refl
back KeyOf = refl
back Module = refl
back Namespace = refl
back Never = refl
back Out = refl
back Readonly = refl
back Require = refl
back Number = refl
back Object = refl
back Satisfies = refl
back String = refl
back Symbol = refl
back «Type» = refl
back Undefined = refl
back Unique = refl
back Using = refl
back Unknown = refl
back Global = refl
back BigInt = refl
back Override = refl
back Implements = refl
back Interface = refl
back Let = refl
back Package = refl
back Private = refl
back Protected = refl
back Public = refl
back Static = refl
back Yield = refl
back True = refl
back False = refl
back Null = refl
back Amp = refl
back Amp2 = refl
back Amp2Eq = refl
back AmpEq = refl
back Bang = refl
back Caret = refl
back CaretEq = refl
back Colon = refl
back Comma = refl
back Dot = refl
back Dot3 = refl
back Eq = refl
back Eq2 = refl
back Eq3 = refl
back GtEq = refl
back LAngle = refl
back LBrack = refl
back LCurly = refl
back LParen = refl
back LtEq = refl
back Minus = refl
back Minus2 = refl
back MinusEq = refl
back Neq = refl
back Neq2 = refl
back Percent = refl
back PercentEq = refl
back Pipe = refl
back Pipe2 = refl
back Pipe2Eq = refl
back PipeEq = refl
back Plus = refl
back Plus2 = refl
back PlusEq = refl
back Question = refl
back Question2 = refl
back Question2Eq = refl
back QuestionDot = refl
back RAngle = refl
back RBrack = refl
back RCurly = refl
back RParen = refl
back Semicolon = refl
back ShiftLeft = refl
back ShiftLeftEq = refl
back ShiftRight = refl
back ShiftRight3 = refl
back ShiftRight3Eq = refl
back ShiftRightEq = refl
back Slash = refl
back SlashEq = refl
back Star = refl
back Star2 = refl
back Star2Eq = refl
back StarEq = refl
back Tilde = refl
back Arrow = refl
back Decimal = refl
back Float = refl
back Binary = refl
back Octal = refl
back Hex = refl
back PositiveExponential = refl
back NegativeExponential = refl
back DecimalBigInt = refl
back BinaryBigInt = refl
back OctalBigInt = refl
back HexBigInt = refl
back Str = refl
back RegExp = refl
back NoSubstitutionTemplate = refl
back TemplateHead = refl
back TemplateMiddle = refl
back TemplateTail = refl
back PrivateIdentifier = refl
back JSXText = refl
back At = refl

pub number_injective : (a b : Kind) → number a ≡ number b → a ≡ b
number_injective a b e = sym (back a) ∙ ap (λ n. get_or kinds n Eof) e ∙ back b

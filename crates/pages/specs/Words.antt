-- Faults and layers by number, and faults in words.
use Rattle.std.specs.Prelude.{◌≡◌, ℕ, List, codes, Result, MatchResult}
use Rattle.std.proofs.Common.{◌≢◌}
use Rattle.pages.specs.declared.fault.FaultKind.{FaultKind}
use Rattle.pages.specs.declared.fault.FaultKind.TheVariants.{Expected, Unexpected, Unclosed, Unended, NoString, LoneName, Foreign, Refused, Full, Stopped, BlankPage, EscapedKeyword, DeferBraces, DeferDefault, SourceForm, ImportString, ImportReserved, ExportString, ExportReserved, SecondExport, RepeatedKey, RepeatedName, SeveralDefaults}
use Rattle.pages.specs.declared.fault.NoFault.{NoFault}
use Rattle.pages.specs.declared.fault.Layer.{Layer}
use Rattle.pages.specs.declared.fault.NoLayer.{NoLayer}
use Rattle.pages.specs.Faults.{layer_number, number_of}

-- the layer of this number, or a number that no layer has
abbrev pub LayerByNumber : ℕ → Result Layer NoLayer → Type 0
LayerByNumber n r = MatchResult r (λ l. layer_number l ≡ n) (λ e. (e.0 ≡ n) × ((l : Layer) → layer_number l ≢ n))

-- the fault of this number, or a number that no fault has
abbrev pub FaultByNumber : ℕ → Result FaultKind NoFault → Type 0
FaultByNumber n r = MatchResult r (λ k. number_of k ≡ n) (λ e. (e.0 ≡ n) × ((k : FaultKind) → number_of k ≢ n))

-- what a program prints of a fault
abbrev pub words_of : FaultKind → List ℕ
words_of Expected = codes "a token of another kind is wanted here"
words_of Unexpected = codes "this token fits nowhere here"
words_of Unclosed = codes "neither a comma nor the closing brace"
words_of Unended = codes "the statement does not end"
words_of NoString = codes "the value of an attribute is no string"
words_of LoneName = codes "a name with a lone surrogate"
words_of Foreign = codes "a form of another language"
words_of Refused = codes "the host refused"
words_of Full = codes "a table has no room for it"
words_of Stopped = codes "reading had stopped before"
words_of BlankPage = codes "it is blank"
words_of EscapedKeyword = codes "a keyword is written with an escape"
words_of DeferBraces = codes "`import defer` with braces"
words_of DeferDefault = codes "`import defer` with a default"
words_of SourceForm = codes "`import source` with a star or braces"
words_of ImportString = codes "the local name of an import is a string"
words_of ImportReserved = codes "the local name of an import is a reserved word"
words_of ExportString = codes "the local name of an export is a string"
words_of ExportReserved = codes "the local name of an export is a reserved word"
words_of SecondExport = codes "`export export`"
words_of RepeatedKey = codes "an attribute key stands twice"
words_of RepeatedName = codes "a name is exported twice"
words_of SeveralDefaults = codes "there are several defaults"

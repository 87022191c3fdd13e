-- The worked modules, computed.
use Rattle.std.proofs.Common.{rules}
use Rattle.kinds.specs.Numbers.{same}
use Rattle.kinds.specs.Classes.{has, is_reserved, is_contextual, is_strict, is_future, is_keyword, is_identifier_name, is_identifier, is_binding}
use Rattle.kinds.specs.Keywords.{match_keyword}
use Rattle.pages.specs.Faults.{fault_at, fault_with, fault_of_host}
use Rattle.reading.specs.Ahead.{next, rest, span_here, import_follows, attributes_follow}
use Rattle.reading.specs.Readings.{name_of, reserved_text, request_of, specified, attributed, last_end, span_of, upto, tokens_at, named}
use Rattle.reading.specs.Steps.{stop_at, add, bind, test, esc, token, name, ending, crowded}
use Rattle.reading.specs.Braces.{closes, separator, elements, inside, braced}
use Rattle.reading.specs.Attributes.{key, attribute, repeated, repeats, attributes}
use Rattle.reading.specs.Imports.{local, alias, specifier, from_source, star_alias, star_with_source, braces_with_source, via_star, via_braces, after_default, after_defer, after_source_name, after_source, after_binding, form, importing}
use Rattle.reading.specs.Exports.{export_specifier, export_local, locals, sourced, export_all, export_braces, room_for, declared_by, defaulted_by, export_clause, exporting}
use Rattle.reading.specs.Items.{stated_by, clause, item, items, read_all}
use Rattle.reading.specs.Trials.{refusing, answering}
use Rattle.reading.specs.Worked.{Worked, Exported}
use Rattle.reading.specs.Limits.{Limits}

-- all of them
computed : Worked × (Limits × Exported)
unfolding refusing answering same has is_reserved is_contextual is_strict is_future is_keyword is_identifier_name is_identifier is_binding match_keyword fault_at fault_with fault_of_host next rest span_here import_follows attributes_follow name_of request_of specified attributed last_end span_of upto tokens_at named stop_at add bind test esc token name ending crowded closes separator elements inside braced key attribute repeated repeats attributes local alias specifier from_source star_alias star_with_source braces_with_source via_star via_braces after_default after_defer after_source_name after_source after_binding form importing export_specifier reserved_text export_local locals sourced export_all export_braces room_for declared_by defaulted_by export_clause exporting stated_by clause item items read_all
computed = search rules

pub worked : Worked
worked = computed.0

pub limits : Limits
limits = computed.1.0

pub exported_names : Exported
exported_names = computed.1.1

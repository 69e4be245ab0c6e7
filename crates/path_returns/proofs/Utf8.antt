-- The printed text of a path is UTF-8, since its names are.
use Rattle.std.proofs.Common.{◌≡◌, ℕ, Bool, true, false, List, [], ◌∷◌, ◌++◌, arith}
use Rattle.std.specs.List.{list_all}
use Rattle.std.specs.Str.{chars, is_utf8, IsUtf8}
use Rattle.std.proofs.lemmas.Bool.{and_parts}
use Rattle.std.proofs.lemmas.Str.{IsUtf8-append, IsUtf8-from_is_utf8, IsUtf8-nil, is_utf8-from_IsUtf8}
use Rattle.usd_names.specs.Names.{spells_identifier, spells_variant, is_identifier, is_name, is_variant, is_property_name}
use Rattle.sdf_paths.specs.Paths.{IsPath, is_well_named, is_selection, written, written_all, printed}
use Rattle.sdf_paths.specs.declared.element.Element.{Element}
use Rattle.sdf_paths.specs.declared.element.Element.TheVariants.{Prim, Property, Selection}
use Rattle.value_texts.proofs.AsciiTests.{ascii_before}
use Rattle.path_returns.specs.Returns.{AreUtf8}

identifier_utf8 : (t : List ℕ) → is_identifier t ≡ true → IsUtf8 t
unfolding is_identifier
identifier_utf8 t h = IsUtf8-from_is_utf8 t (and_parts (is_utf8 t) (spells_identifier (chars t)) h).0

variant_utf8 : (t : List ℕ) → is_variant t ≡ true → IsUtf8 t
unfolding is_variant
variant_utf8 t h = IsUtf8-from_is_utf8 t (and_parts (is_utf8 t) (spells_variant (chars t)) h).0

property_utf8 : (t : List ℕ) → is_property_name t ≡ true → IsUtf8 t
unfolding is_property_name
property_utf8 t h = IsUtf8-from_is_utf8 t (and_parts (is_utf8 t) (is_name t) h).0

element_utf8 : (after : Bool) (e : Element) → is_well_named e ≡ true → IsUtf8 (written after e)
element_utf8 true (Prim name) h = identifier_utf8 name h
element_utf8 false (Prim name) h = ascii_before 47 name (omega arith) (identifier_utf8 name h)
element_utf8 after (Property name) h = ascii_before 46 name (omega arith) (property_utf8 name h)
element_utf8 after (Selection set variant) h =
    let p = and_parts (is_identifier set) (is_variant variant) h in
    ascii_before 123 (set ++ (61 ∷ variant) ++ (125 ∷ [])) (omega arith)
    (IsUtf8-append (set ++ (61 ∷ variant)) (125 ∷ []) (IsUtf8-append set (61 ∷ variant) (identifier_utf8 set p.0) (ascii_before 61 variant (omega arith) (variant_utf8 variant p.1)))
    (ascii_before 125 [] (omega arith) IsUtf8-nil))

elements_utf8 : (after : Bool) (es : List Element) → list_all is_well_named es ≡ true → IsUtf8 (written_all after es)
elements_utf8 after [] h = IsUtf8-nil
elements_utf8 after (e ∷ es) h =
    let p = and_parts (is_well_named e) (list_all is_well_named es) h in
    IsUtf8-append (written after e) (written_all (is_selection e) es) (element_utf8 after e p.0) (elements_utf8 (is_selection e) es p.1)

printed_utf8 : (path : List Element) → list_all is_well_named path ≡ true → IsUtf8 (printed path)
printed_utf8 [] h = ascii_before 47 [] (omega arith) IsUtf8-nil
printed_utf8 (e ∷ es) h = elements_utf8 false (e ∷ es) h

pub path_utf8 : (path : List Element) → IsPath path → IsUtf8 (printed path)
path_utf8 path h = printed_utf8 path h.well_formed.named

pub path_is_utf8 : AreUtf8
path_is_utf8 path h = is_utf8-from_IsUtf8 (printed path) (path_utf8 path h)

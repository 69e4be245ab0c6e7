-- What is open still behind a statement on a property.
use Rattle.std.proofs.Common.{◌≡◌, true, List, [], ◌∷◌, Option, Some, None, refl}
use Rattle.sdf_values.specs.declared.value.Value.{Value}
use Rattle.usda_grammar.specs.Table.{starts}
use Rattle.usda_grammar.specs.declared.kinds.WordKind.{WordKind}
use Rattle.usda_grammar.specs.declared.kinds.WordKind.TheVariants as token
use Rattle.usda_grammar.specs.declared.symbols.Symbol.TheVariants as symbol
use Rattle.value_texts.specs.Cuts.{Said}
use Rattle.layer_reads.specs.Items.{begins_item, IsLeft, Left}
use Rattle.layer_reads.proofs.Items.{semicolon, semicolon_left}

pub attribute_tail : IsLeft symbol.MaybeAttributeTail
attribute_tail = record { absent = refl; begins_none = none }
  where
    none : (k : WordKind) → begins_item k ≡ true → starts symbol.MaybeAttributeTail k ≡ None
    none (token.Word w) h = refl
    none token.Quoted h = refl
    none token.CloseBrace h = refl
    none token.CloseParen h = refl
    none _ h = absurd cc

pub metadata : IsLeft symbol.MaybePropertyMetadata
metadata = record { absent = refl; begins_none = none }
  where
    none : (k : WordKind) → begins_item k ≡ true → starts symbol.MaybePropertyMetadata k ≡ None
    none (token.Word w) h = refl
    none token.Quoted h = refl
    none token.CloseBrace h = refl
    none token.CloseParen h = refl
    none _ h = absurd cc

pub targets : IsLeft symbol.MaybeTargets
targets = record { absent = refl; begins_none = none }
  where
    none : (k : WordKind) → begins_item k ≡ true → starts symbol.MaybeTargets k ≡ None
    none (token.Word w) h = refl
    none token.Quoted h = refl
    none token.CloseBrace h = refl
    none token.CloseParen h = refl
    none _ h = absurd cc

abbrev pub metadata_left : Left
metadata_left = record { symbols = symbol.MaybePropertyMetadata ∷ symbol.MaybeSemicolon ∷ []; each = (metadata, (semicolon, tt)) }

-- behind an attribute, by its default and the words of its metadata
abbrev pub tail_left : Option Value → List Said → Left
tail_left None [] = record { symbols = symbol.MaybeAttributeTail ∷ symbol.MaybeSemicolon ∷ []; each = (attribute_tail, (semicolon, tt)) }
tail_left (Some v) [] = metadata_left
tail_left v (x ∷ words) = semicolon_left

-- behind a relationship
abbrev pub targets_left : {T : Type 0} → Option T → List Said → Left
targets_left None [] = record { symbols = symbol.MaybeTargets ∷ symbol.MaybePropertyMetadata ∷ symbol.MaybeSemicolon ∷ []; each = (targets, (metadata, (semicolon, tt))) }
targets_left (Some v) [] = metadata_left
targets_left v (x ∷ words) = semicolon_left

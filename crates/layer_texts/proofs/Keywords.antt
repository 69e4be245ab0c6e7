-- The words of the text are names.
use Rattle.std.proofs.Common.{◌≡◌, ℕ, true, List, [], ◌∷◌, refl}
use Rattle.std.specs.Prelude.{codes}
use Rattle.std.specs.Str.{chars, is_utf8}
use Rattle.std.proofs.lemmas.Bool.{and_parts}
use Rattle.unicode_ident.proofs.Computing.{unicode_ident}
use Rattle.usd_names.specs.Names.{is_start}
use Rattle.value_texts.specs.Follows.{may_follow}
use Rattle.value_texts.specs.ValueWords.{name_said}
use Rattle.value_texts.proofs.Borders.{border_name}
use Rattle.value_texts.proofs.TokenCuts.{word_cut}
use Rattle.layer_texts.specs.Spelled.{IsSpelled}
use Rattle.layer_texts.specs.ListWords.{word}
use Rattle.layer_texts.specs.Writable.{is_word}
use Rattle.layer_texts.proofs.Spelled.{of_cut}

-- a name, before a blank or a mark
pub word_spelled : (t : List ℕ) → is_word t ≡ true → IsSpelled may_follow t (word t)
unfolding is_word
word_spelled t h = let p = and_parts _ _ h in of_cut may_follow t (name_said t ∷ []) refl (λ at rest k. word_cut at t rest p.0 p.1 (border_name rest k))

pub offset_word : is_word (codes "offset") ≡ true
unfolding is_word is_utf8 chars is_start unicode_ident lib.Utf8.encode
offset_word = refl

pub scale_word : is_word (codes "scale") ≡ true
unfolding is_word is_utf8 chars is_start unicode_ident lib.Utf8.encode
scale_word = refl

pub delete_word : is_word (codes "delete") ≡ true
unfolding is_word is_utf8 chars is_start unicode_ident lib.Utf8.encode
delete_word = refl

pub add_word : is_word (codes "add") ≡ true
unfolding is_word is_utf8 chars is_start unicode_ident lib.Utf8.encode
add_word = refl

pub prepend_word : is_word (codes "prepend") ≡ true
unfolding is_word is_utf8 chars is_start unicode_ident lib.Utf8.encode
prepend_word = refl

pub append_word : is_word (codes "append") ≡ true
unfolding is_word is_utf8 chars is_start unicode_ident lib.Utf8.encode
append_word = refl

pub reorder_word : is_word (codes "reorder") ≡ true
unfolding is_word is_utf8 chars is_start unicode_ident lib.Utf8.encode
reorder_word = refl

pub apiSchemas_word : is_word (codes "apiSchemas") ≡ true
unfolding is_word is_utf8 chars is_start unicode_ident lib.Utf8.encode
apiSchemas_word = refl

pub clipSets_word : is_word (codes "clipSets") ≡ true
unfolding is_word is_utf8 chars is_start unicode_ident lib.Utf8.encode
clipSets_word = refl

pub inherits_word : is_word (codes "inherits") ≡ true
unfolding is_word is_utf8 chars is_start unicode_ident lib.Utf8.encode
inherits_word = refl

pub variantSets_word : is_word (codes "variantSets") ≡ true
unfolding is_word is_utf8 chars is_start unicode_ident lib.Utf8.encode
variantSets_word = refl

pub variants_word : is_word (codes "variants") ≡ true
unfolding is_word is_utf8 chars is_start unicode_ident lib.Utf8.encode
variants_word = refl

pub references_word : is_word (codes "references") ≡ true
unfolding is_word is_utf8 chars is_start unicode_ident lib.Utf8.encode
references_word = refl

pub payload_word : is_word (codes "payload") ≡ true
unfolding is_word is_utf8 chars is_start unicode_ident lib.Utf8.encode
payload_word = refl

pub specializes_word : is_word (codes "specializes") ≡ true
unfolding is_word is_utf8 chars is_start unicode_ident lib.Utf8.encode
specializes_word = refl

pub subLayers_word : is_word (codes "subLayers") ≡ true
unfolding is_word is_utf8 chars is_start unicode_ident lib.Utf8.encode
subLayers_word = refl

pub None_word : is_word (codes "None") ≡ true
unfolding is_word is_utf8 chars is_start unicode_ident lib.Utf8.encode
None_word = refl

pub nameChildren_word : is_word (codes "nameChildren") ≡ true
unfolding is_word is_utf8 chars is_start unicode_ident lib.Utf8.encode
nameChildren_word = refl

pub properties_word : is_word (codes "properties") ≡ true
unfolding is_word is_utf8 chars is_start unicode_ident lib.Utf8.encode
properties_word = refl

pub rootPrims_word : is_word (codes "rootPrims") ≡ true
unfolding is_word is_utf8 chars is_start unicode_ident lib.Utf8.encode
rootPrims_word = refl

pub custom_word : is_word (codes "custom") ≡ true
unfolding is_word is_utf8 chars is_start unicode_ident lib.Utf8.encode
custom_word = refl

pub uniform_word : is_word (codes "uniform") ≡ true
unfolding is_word is_utf8 chars is_start unicode_ident lib.Utf8.encode
uniform_word = refl

pub rel_word : is_word (codes "rel") ≡ true
unfolding is_word is_utf8 chars is_start unicode_ident lib.Utf8.encode
rel_word = refl

pub timeSamples_word : is_word (codes "timeSamples") ≡ true
unfolding is_word is_utf8 chars is_start unicode_ident lib.Utf8.encode
timeSamples_word = refl

pub connect_word : is_word (codes "connect") ≡ true
unfolding is_word is_utf8 chars is_start unicode_ident lib.Utf8.encode
connect_word = refl

pub def_word : is_word (codes "def") ≡ true
unfolding is_word is_utf8 chars is_start unicode_ident lib.Utf8.encode
def_word = refl

pub over_word : is_word (codes "over") ≡ true
unfolding is_word is_utf8 chars is_start unicode_ident lib.Utf8.encode
over_word = refl

pub class_word : is_word (codes "class") ≡ true
unfolding is_word is_utf8 chars is_start unicode_ident lib.Utf8.encode
class_word = refl

pub variantSet_word : is_word (codes "variantSet") ≡ true
unfolding is_word is_utf8 chars is_start unicode_ident lib.Utf8.encode
variantSet_word = refl

-- Words of lists: those of the property in hand, and those of fields and of sublayers.
use Rattle.std.proofs.Common.{◌≡◌, refl, subst, true, false, Ok}
use Rattle.sdf_paths.specs.Paths.{IsPath}
use Rattle.usda_fields.specs.Fields as fields
use Rattle.usda_fields.specs.declared.field.ListField.TheVariants.{Paths, References, Texts}
use Rattle.usda_grammar.specs.declared.kinds.WordKind.{WordKind}
use Rattle.usda_grammar.specs.declared.kinds.WordKind.TheVariants as token
use Rattle.usda_statements.specs.PropertyDrafts.{path_act, with_list_closed}
use Rattle.usda_statements.specs.declared.property.PropertyDraft.{PropertyDraft}
use Rattle.usda_words.specs.Words.{Word}
use Rattle.usda_drafts.specs.Lists.{string_act, list_path_act, asset_act, lone_path_act, item_path_act, end_act, in_list_act, in_references_act}
use Rattle.usda_drafts.specs.Values.{with_said, with_property}
use Rattle.usda_drafts.specs.declared.draft.Draft.{Draft}
use Rattle.usda_drafts.specs.declared.draft.OpenList.{OpenList}
use Rattle.usda_drafts.specs.declared.draft.OpenList.TheVariants as open_list
use Rattle.properties_read.specs.Drafts.{IsSoundInHand, HasSoundProperties, IsUtf8Path, is_of_property, behind_start, behind_part}
use Rattle.properties_read.specs.Targets.{Reading, closed, begun, bracketed}
use Rattle.properties_read.proofs.Drafts.{then_made, Keeps, itself, changed, kept, hand_is, said_so}
use Rattle.properties_read.proofs.Hands.{none_hand, opened_hand, closed_hand, alone_hand, path_hand}

-- ---- lists of fields and of sublayers

pub string_so : (l : OpenList) (w : Word) (d next : Draft) → string_act l w d ≡ Ok next → Keeps d next
unfolding string_act
string_so (open_list.Field (Texts field)) w d next e = said_so d w.start (fields.text_act field d.edit w.text d.owner.said) next e
string_so l w d next e = itself d next e

pub path_so : (l : OpenList) (w : Word) (d next : Draft) → is_of_property l ≡ false → list_path_act l w d ≡ Ok next → Keeps d next
unfolding list_path_act
path_so (open_list.Field (Paths field)) w d next other e = said_so d w.start (fields.path_act field d.edit w.text d.owner.said) next e
path_so open_list.Property w d next other e = absurd cc
path_so l w d next other e = itself d next e

pub end_so : (l : OpenList) (d next : Draft) → is_of_property l ≡ false → end_act l d ≡ Ok next → Keeps d next
unfolding end_act
end_so (open_list.Field field) d next other e =
    changed d (with_said d (fields.close_field field d.edit d.owner.said)) next (record { property = refl; properties = refl; marks = refl; outer = refl; specs = refl; value = refl }) e
end_so open_list.Property d next other e = absurd cc
end_so open_list.SubLayers d next other e = itself d next e

pub asset_so : (l : OpenList) (w : Word) (d next : Draft) → asset_act l w d ≡ Ok next → Keeps d next
unfolding asset_act
asset_so (open_list.Field (References field)) w d next e =
    changed d (with_said d (fields.asset_act field d.edit w.text d.owner.said)) next (record { property = refl; properties = refl; marks = refl; outer = refl; specs = refl; value = refl }) e
asset_so l w d next e = itself d next e

pub lone_path_so : (l : OpenList) (w : Word) (d next : Draft) → lone_path_act l w d ≡ Ok next → Keeps d next
unfolding lone_path_act
lone_path_so (open_list.Field (References field)) w d next e = said_so d w.start (fields.lone_path_act field d.edit w.text d.owner.said) next e
lone_path_so l w d next e = itself d next e

pub item_path_so : (l : OpenList) (w : Word) (d next : Draft) → item_path_act l w d ≡ Ok next → Keeps d next
unfolding item_path_act
item_path_so (open_list.Field (References field)) w d next e = said_so d w.start (fields.item_path_act field d.edit w.text d.owner.said) next e
item_path_so l w d next e = itself d next e

pub list_so : (k : WordKind) (w : Word) (d next : Draft) → is_of_property d.list ≡ false → in_list_act k w d ≡ Ok next → Keeps d next
unfolding in_list_act
list_so token.Quoted w d next other e = string_so d.list w d next e
list_so token.Path w d next other e = path_so d.list w d next other e
list_so token.CloseBracket w d next other e = end_so d.list d next other e
list_so k w d next other e = itself d next e

pub references_so : (k : WordKind) (w : Word) (d next : Draft) → is_of_property d.list ≡ false → in_references_act k w d ≡ Ok next → Keeps d next
unfolding in_references_act
references_so token.Asset w d next other e = asset_so d.list w d next e
references_so token.Path w d next other e = lone_path_so d.list w d next e
references_so token.CloseBracket w d next other e = end_so d.list d next other e
references_so k w d next other e = itself d next e

pub other_list_sound : (r : Reading) (k : WordKind) (w : Word) (d next : Draft) → is_of_property d.list ≡ false → HasSoundProperties r d → in_list_act k w d ≡ Ok next → HasSoundProperties r next
other_list_sound r k w d next other s e = kept r d next (list_so k w d next other e) s

pub references_sound : (r : Reading) (k : WordKind) (w : Word) (d next : Draft)
    → is_of_property d.list ≡ false → HasSoundProperties r d → in_references_act k w d ≡ Ok next → HasSoundProperties r next
references_sound r k w d next other s e = kept r d next (references_so k w d next other e) s

-- ---- lists of the property in hand

-- a path, where it is known what it makes of the property
path_here : (r after : Reading) (l : OpenList) (w : Word) (d next : Draft) → is_of_property l ≡ true
    → ((p : PropertyDraft) → path_act d.owner.said.base w.text d.property ≡ Ok p → IsSoundInHand after p) → HasSoundProperties r d → list_path_act l w d ≡ Ok next → HasSoundProperties after next
unfolding list_path_act
path_here r after open_list.Property w d next here put s e =
    let m = then_made w.start (path_act d.owner.said.base w.text d.property) (with_property d) next e in
    subst (HasSoundProperties after) {x = with_property d m.0} m.1.1 (hand_is r after d m.0 (put m.0 m.1.0) s)
path_here r after (open_list.Field field) w d next here put s e = absurd cc
path_here r after open_list.SubLayers w d next here put s e = absurd cc

-- the end of the list
end_here : (l : OpenList) (d next : Draft) → is_of_property l ≡ true → HasSoundProperties bracketed d → end_act l d ≡ Ok next → HasSoundProperties closed next
unfolding end_act
end_here open_list.Property d next here s e =
    let same : with_property d (with_list_closed d.property) ≡ next = cc e in
    subst (HasSoundProperties closed) same (hand_is bracketed closed d (with_list_closed d.property) (closed_hand d.property s.in_hand) s)
end_here (open_list.Field field) d next here s e = absurd cc
end_here open_list.SubLayers d next here s e = absurd cc

-- a string is no part of the list
string_here : (r : Reading) (l : OpenList) (w : Word) (d next : Draft) → HasSoundProperties r d → string_act l w d ≡ Ok next → HasSoundProperties r next
string_here r l w d next s e = kept r d next (string_so l w d next e) s

none_read : (d : Draft) → HasSoundProperties begun d → HasSoundProperties closed d
none_read d s = record { in_hand = none_hand d.property s.in_hand; owner = s.owner; outer = s.outer; specs = s.specs }

opened_read : (d : Draft) → HasSoundProperties begun d → HasSoundProperties bracketed d
opened_read d s = record { in_hand = opened_hand d.property s.in_hand; owner = s.owner; outer = s.outer; specs = s.specs }

pub started_sound : (k : WordKind) (w : Word) (d next : Draft) → is_of_property d.list ≡ true → IsPath d.owner.said.base → IsUtf8Path k w
    → HasSoundProperties begun d → in_list_act k w d ≡ Ok next → HasSoundProperties (behind_start k) next
unfolding in_list_act
started_sound token.Quoted w d next here is u s e = string_here closed d.list w d next (none_read d s) e
started_sound token.Path w d next here is u s e = path_here begun closed d.list w d next here (λ p g. alone_hand d.owner.said.base w.text d.property p is u g s.in_hand) s e
started_sound token.CloseBracket w d next here is u s e = end_here d.list d next here (opened_read d s) e
started_sound token.OpenBracket w d next here is u s e = kept bracketed d next (itself d next e) (opened_read d s)
started_sound k w d next here is u s e = kept closed d next (itself d next e) (none_read d s)

pub part_sound : (k : WordKind) (w : Word) (d next : Draft) → is_of_property d.list ≡ true → IsPath d.owner.said.base → IsUtf8Path k w
    → HasSoundProperties bracketed d → in_list_act k w d ≡ Ok next → HasSoundProperties (behind_part k) next
unfolding in_list_act
part_sound token.Quoted w d next here is u s e = string_here bracketed d.list w d next s e
part_sound token.Path w d next here is u s e = path_here bracketed bracketed d.list w d next here (λ p g. path_hand d.owner.said.base w.text d.property p is u g s.in_hand) s e
part_sound token.CloseBracket w d next here is u s e = end_here d.list d next here s e
part_sound k w d next here is u s e = kept bracketed d next (itself d next e) s

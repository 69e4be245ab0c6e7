-- What the words of a text say of the layer, of its prims and of its variants.
use Rattle.std.proofs.Common.{◌≡◌, Bool, [], refl, subst}
use Rattle.spec_parts.specs.declared.items.Specifier.TheVariants.{Over}
use Rattle.usda_drafts.specs.Drafts.{blank, layer_of, layer_by, head_from, head_with}
use Rattle.usda_drafts.specs.Owners.{owner_of, spec_of}
use Rattle.usda_drafts.specs.declared.draft.Draft.{Draft}
use Rattle.usda_grammar.specs.Table.{layer}
use Rattle.fields_read.specs.Sound.{IsSaid}
use Rattle.fields_read.proofs.Begun.{owners_begin}
use Rattle.fields_read.proofs.Proper.{said_proper}
use Rattle.layer_reads.specs.Keys.{is_plain_head_key}
use Rattle.values_read.proofs.Acts.{words_keep}
use Rattle.values_read.proofs.Placed.{owners_have_paths}
use Rattle.trees_read.proofs.ListStacks.{done_parts}
use Rattle.trees_read.proofs.ListRows.{part, has_item}
use Rattle.layers_read.specs.Laws.{IsAllSaid, SaidIsRead}
use Rattle.layers_read.proofs.Kept.{Follows, kept, quiet_of}
use Rattle.layers_read.proofs.Rows.{has_edited}
use Rattle.layers_read.proofs.States.{root_head, Quiet}
use Rattle.properties_read.proofs.Aiming.{steps_aimed}
use Rattle.trees_read.proofs.Texts.{read_trees}
use Rattle.trees_read.proofs.Runs.{IsAtEnd}
use Rattle.layers_read.proofs.Runs.{holds_behind}

-- ---- the first word and the last

begins : Follows layer blank
unfolding blank owner_of
begins = record {
  tree = read_trees.begins;
  aiming = steps_aimed.begins;
  on_top = refl;
  fits = (refl, (tt, tt));
  sound = words_keep.begins;
  owners = owners_have_paths.begins;
  state = ((record { specs = tt; outer = tt; typed = refl; opening = refl; sublayers = tt; aim = tt; word = λ h. absurd cc }, owners_begin is_plain_head_key [] Over owners_have_paths.begins.0.formed), λ h. absurd cc);
  aimed = λ h. tt;
}

all_said : (b : Bool) (d : Draft) → d.outer ≡ [] → Quiet b d → IsAllSaid d
unfolding layer_of layer_by head_from head_with spec_of
all_said b d root q =
    let said : IsSaid is_plain_head_key d.owner.said = subst (λ f. IsSaid f d.owner.said) (root_head d.outer root) q.1 in
    let p = said_proper.head d.sublayers d.owner.said said q.0.sublayers in
    record { head = record { keys = p.keys; apart = p.apart; default_prim = p.default_prim; sublayers = p.sublayers; root_order = p.root_order }; specs = q.0.specs }

pub said_read : SaidIsRead
said_read bytes d utf8 made =
    let e : IsAtEnd Follows d = holds_behind Follows kept bytes d utf8 begins made in
    all_said (has_edited e.stack) d (read_trees.ends e.stack d e.holds.tree e.done).over.outer
    (quiet_of (has_edited e.stack) (part e.stack) (done_parts e.stack e.done) (has_item e.stack) d e.holds.state)

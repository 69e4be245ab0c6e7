use Rattle.std.proofs.Common.{◌≡◌, ◌∙◌, ap, sym, List, ℕ, []}
use Rattle.std.proofs.lemmas.List.{drop_all}
use Rattle.indexmap.specs.IndexSet.{insert_all, insert_key}
use Rattle.spec_properties.specs.declared.property.Property.{Property}
use Rattle.spec_properties.specs.Properties.{property_names, same_name}
use Rattle.spec_properties.proofs.Once.{put_all, name_put}
use Rattle.spec_properties.proofs.names.names_of.Goals as goal

pub returns : goal.returns
returns c =
    let all : c.loop-property.names.keys ≡ property_names c.args.list.now =
    sym (ap (λ (ps : List Property). insert_all same_name c.loop-property.names.keys (property_names ps)) (drop_all c.loop-property.property-index c.args.list.now c.loop-property-test.false))
    ∙ (c.loop-property.invariant ∙ put_all [] (property_names c.args.list.now) c.requires.distinct) in
    ap (λ s. s.keys) c.in_ok-new.ensures.ok
    ∙ (c.in_ok-note_name-2.ensures.ok
    ∙ (ap (λ (ns : List (List ℕ)). insert_key same_name ns c.args.name.now) all ∙ name_put c.args.name.now c.args.list.now c.requires.absent))

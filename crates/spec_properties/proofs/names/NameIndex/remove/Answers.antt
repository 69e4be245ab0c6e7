use Rattle.std.proofs.Common.{◌∙◌, ap, refl, Some}
use Rattle.indexmap.specs.IndexSet.{remove_key}
use Rattle.spec_properties.specs.Properties.{same_name}
use Rattle.spec_properties.proofs.names.NameIndex.remove.Goals as goal
use Rattle.spec_properties.proofs.names.NameIndex.remove.Goals.{in-Some, in_default}

pub returns : goal.returns
returns c = elim c.match-self.branch [
  | in-Some w ↦
      rw (w.self-inside-is, ← c.self.view_is, w.in-Some.is)
      (ap Some (w.shift_remove.ensures.keys ∙ ap (λ s. remove_key (same_name c.args.name.now) s.keys) w.deref_mut.ensures.value))
  | in_default w ↦ rw (w.self-inside-is, ← c.self.view_is, w.in_default.is) refl
]

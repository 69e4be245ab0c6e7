use Rattle.std.proofs.Common.{◌≡◌, ◌∙◌, ap, sym, subst, List, ℕ}
use Rattle.std.proofs.lemmas.Result.{on_ok_weaker}
use Rattle.indexmap.specs.IndexSet.{insert_key}
use Rattle.spec_properties.specs.Properties.{same_name, property_names}
use Rattle.spec_properties.specs.Places.{Keeps}
use Rattle.spec_properties.proofs.Once.{name_put}
use Rattle.spec_properties.proofs.names.NameIndex.note.Goals as goal

pub returns-in-Some-clause-ok : goal.returns-in-Some-clause-ok
returns-in-Some-clause-ok c =
    let name = c.args.name.now in
    let names = property_names c.args.list.now in
    let kept : c.in-Some.names.value.keys ≡ names = subst (λ k. Keeps k names) (sym (rw c.in-Some.is at c.self.view_is)) c.requires.kept in
    on_ok_weaker c.note_name.result (λ put.
    put ∙ (ap (λ s. insert_key same_name s.keys name) c.deref_mut.ensures.value
    ∙ (ap (λ (ns : List (List ℕ)). insert_key same_name ns name) kept ∙ name_put name c.args.list.now c.requires.absent)))
    c.note_name.ensures.ok

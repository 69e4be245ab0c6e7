use Rattle.std.proofs.Common.{◌∙◌, sym, ap, Option, List}
use Rattle.sdf_values.specs.declared.value.DictItem.{DictItem}
use Rattle.sdf_values.specs.declared.value.Value.{Value}
use Rattle.sdf_values.specs.declared.value.Value.TheVariants.{Dict}
use Rattle.composition.specs.Values.{if_value, mapped_value}
use Rattle.value_resolve.proofs.Dicts.{dict_is}
use Rattle.value_resolve.proofs.mapping.+mapped.Goals as goal

pub mapped-returns-in_ok-mapped_dict-in-Dict : goal.mapped-returns-in_ok-mapped_dict-in-Dict
mapped-returns-in_ok-mapped_dict-in-Dict t c =
    c.dict_of.ensures
    ∙ (ap (λ (items : Option (List DictItem)). if_value Dict items) c.in_ok-mapped_dict-in-Dict.ensures
    ∙ (dict_is c.args.offset c.in-Dict.items
    ∙ ap (λ (v : Value). mapped_value c.args.offset v) (sym c.in-Dict.is)))

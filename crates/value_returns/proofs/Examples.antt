-- What is proper, and what is not.
use Rattle.std.proofs.Common.{◌≡◌, ◌∙◌, ℕ, Bool, true, List, [], ◌∷◌, ◌||◌, refl, ap, arith}
use Rattle.std.specs.Prelude.{codes}
use Rattle.std.specs.List.Sorted.{IsStrictlySortedBy}
use Rattle.std.specs.Str.{chars, is_utf8}
use Rattle.unicode_ident.proofs.Computing.{unicode_ident}
use Rattle.usd_names.specs.Names.{is_start, is_identifier, is_variant, is_variant_character, is_property_name}
use Rattle.sdf_paths.specs.Reader.{step, finish}
use Rattle.sdf_paths.specs.declared.element.Element.TheVariants.{Prim, Property}
use Rattle.sdf_values.specs.Conforms.{conforms, one, holds, holds_step, item_step, is_block_step, is_block_item}
use Rattle.sdf_values.specs.declared.type_name.ElementType.TheVariants.{String}
use Rattle.sdf_values.specs.declared.type_name.TypeName.{TypeName}
use Rattle.sdf_values.specs.declared.value.Value.TheVariants as value
use Rattle.sdf_paths.specs.Reader.{path_of}
use Rattle.usda_lists.specs.References.{same_path}
use Rattle.usda_values.specs.PathTexts.{is_path, is_path_text}
use Rattle.usda_values.specs.declared.shape.Shape.TheVariants.{Metadata}
use Rattle.value_texts.specs.Readable.{depth_step, depth_item}
use Rattle.value_texts.specs.Writable.{writable_step, writable_item}
use Rattle.value_texts.proofs.ReadingSteps.{reads_path, reads_word}
use Rattle.sdf_values.proofs.Values as fold
use Rattle.layer_texts.specs.Writable.{is_word}
use Rattle.text_checks.specs.Utf8.{utf8_step, utf8_item}
use Rattle.layer_reads.specs.Kept.{AreKept}
use Rattle.value_returns.specs.Examples.{ExamplesAreProper}
use Rattle.value_returns.specs.FullPaths.{full_step, full_item}
use Rattle.value_returns.specs.Proper.{IsProperTarget}

abbrev Test : Type 0
Test = TypeName → Bool

block_typed : (t : TypeName) → conforms value.Block t ≡ true
block_typed t = ap (λ b. b || holds value.Block t) (fold.of_block Bool Bool is_block_step is_block_item)

text_typed : (x : List ℕ) → conforms (value.Text x) (one String) ≡ true
text_typed x = ap (λ b. b || holds (value.Text x) (one String)) (fold.of_text Bool Bool is_block_step is_block_item x) ∙ ap (λ (f : Test). f (one String)) (fold.of_text Test Test holds_step item_step x)

none_kept : AreKept same_path IsProperTarget []
none_kept = record { each = tt; once = refl }

target : IsProperTarget (Prim (codes "A") ∷ Property (codes "y") ∷ [])
unfolding chars is_utf8 unicode_ident is_start is_identifier is_property_name lib.Utf8.encode
target = record { formed = record { well_formed = record { ordered = refl; named = refl; few = omega arith }; short = omega arith }; plain = refl }

pub examples_proper : ExamplesAreProper
unfolding IsStrictlySortedBy is_word chars is_utf8 unicode_ident is_start is_identifier is_variant is_variant_character is_property_name path_of step finish is_path is_path_text lib.Utf8.encode
examples_proper = record {
  property = record {
    named = refl;
    defaulted = tt;
    times = (tt, tt);
    sampled = ((omega arith, record { typed = block_typed _; writable = fold.of_block Bool Bool writable_step writable_item; utf8 = fold.of_block Bool Bool utf8_step utf8_item }), tt);
    connected = record {
      inexplicit = refl;
      deleted = none_kept;
      added = none_kept;
      prepended = none_kept;
      appended = record { each = (target, tt); once = refl };
      ordered = none_kept;
    };
    said = record {
      ordered = ((refl, tt), (tt, tt));
      each = (
        record { text = codes "c"; is = refl; utf8 = refl },
        (
          record {
            word = refl;
            name = refl;
            taken = refl;
            writable = fold.of_word Bool Bool writable_step writable_item (codes "w");
            read = reads_word (codes "w") Metadata true;
            deep = omega (arith, fold.of_word ℕ ℕ depth_step depth_item (codes "w"));
            full = fold.of_word Bool Bool full_step full_item (codes "w");
            utf8 = fold.of_word Bool Bool utf8_step utf8_item (codes "w");
          },
          tt,
        ),
      );
    };
  };
  string = record { typed = text_typed (codes "\"@\""); writable = fold.of_text Bool Bool writable_step writable_item (codes "\"@\""); utf8 = fold.of_text Bool Bool utf8_step utf8_item (codes "\"@\"") };
  key = record {
    word = refl;
    name = refl;
    taken = refl;
    writable = fold.of_path Bool Bool writable_step writable_item (codes "/A.y");
    read = reads_path (codes "/A.y") Metadata true;
    deep = omega (arith, fold.of_path ℕ ℕ depth_step depth_item (codes "/A.y"));
    full = fold.of_path Bool Bool full_step full_item (codes "/A.y");
    utf8 = fold.of_path Bool Bool utf8_step utf8_item (codes "/A.y");
  };
  above = fold.of_path Bool Bool full_step full_item (codes "../A");
  below = fold.of_path Bool Bool full_step full_item (codes "A");
  own = fold.of_path Bool Bool full_step full_item (codes ".y");
  form = fold.of_path Bool Bool full_step full_item (codes "/A{s=v}/B");
}

-- Where the value of a key of an owner is open or comes next, the key may stand there.
use Rattle.std.proofs.Common.{◌≡◌, ◌∙◌, ap, subst, true, [], Ok}
use Rattle.usda_grammar.specs.Words.{keyword_of}
use Rattle.usda_grammar.specs.declared.kinds.WordKind.{WordKind}
use Rattle.usda_grammar.specs.declared.kinds.WordKind.TheVariants as token
use Rattle.usda_grammar.specs.declared.symbols.Symbol.{Symbol}
use Rattle.usda_grammar.specs.declared.symbols.Symbol.TheVariants as symbol
use Rattle.usda_statements.specs.PropertyDrafts.{default_act}
use Rattle.usda_lexer.specs.Meanings.{number_of}
use Rattle.usda_statements.specs.declared.open_value.OpenValue.{OpenValue}
use Rattle.usda_words.specs.Words.{Word}
use Rattle.usda_statements.specs.declared.heading.Heading.{Heading}
use Rattle.usda_drafts.specs.Bodies.{headed, default_begun, tail_act, sample_act}
use Rattle.usda_drafts.specs.Metadata.{property_rule, property_key_act}
use Rattle.usda_drafts.specs.Values.{aimed_at_key, aimed_at_default, aimed_at_sample, time_of_number, time_act, with_property}
use Rattle.usda_drafts.specs.declared.aim.Goal.{Goal}
use Rattle.usda_drafts.specs.declared.aim.Goal.TheVariants as goal
use Rattle.usda_drafts.specs.declared.draft.Draft.{Draft}
use Rattle.layer_reads.specs.Keys.{is_plain_key, is_plain_head_key}
use Rattle.properties_read.proofs.Drafts.{then_made}
use Rattle.properties_read.proofs.WordsAimed.{AimsKeys}
use Rattle.properties_read.proofs.Aimed.{Expects}
use Rattle.layers_read.proofs.States.{name_for, IsInside, plain_inside, root_head, IsNoted}
use Rattle.layers_read.proofs.Words.{IsKnownAs}

-- the key of an owner, to which the next value goes, may stand there
abbrev pub IsAimedAt : Goal → Draft → Type 0
IsAimedAt goal.OwnerKey d = name_for d.outer (keyword_of d.aim.key) ≡ true
IsAimedAt g d = Unit {0}

abbrev pub IsAimed : Draft → Type 0
IsAimed d = IsAimedAt d.aim.goal d

-- ---- a word of a value

-- another value, and another property of the same type, do not change what is expected
pub aimed_again : (g : Goal) (d : Draft) (o : OpenValue) → IsAimedAt g d → IsAimedAt g (record d { value = o })
aimed_again goal.Nothing d o a = a
aimed_again goal.OwnerKey d o a = a
aimed_again goal.Variants d o a = a
aimed_again goal.PropertyKey d o a = a
aimed_again goal.Default d o a = a
aimed_again goal.Sample d o a = a

-- ---- words of properties

default_aimed : (d next : Draft) → tail_act token.Equals d ≡ Ok next → IsAimed next
unfolding tail_act default_begun aimed_at_default
default_aimed d next e = let m = then_made d.name_at (default_act d.property) (λ p. aimed_at_default (with_property d p)) next e in subst IsAimed {x = aimed_at_default (with_property d m.0)} m.1.1 tt

sample_aimed : (w : Word) (d next : Draft) → sample_act token.Number w d ≡ Ok next → IsAimed next
unfolding sample_act time_act
sample_aimed w d next e = let m = then_made w.start (time_of_number (number_of w.text)) (λ time. aimed_at_sample time d) next e in subst IsAimed {x = aimed_at_sample m.0 d} m.1.1 tt

headed_aimed : (g : Goal) (d : Draft) (h : Heading) → IsAimedAt g d → IsAimedAt g (headed h d)
headed_aimed goal.Nothing d h a = a
headed_aimed goal.OwnerKey d h a = a
headed_aimed goal.Variants d h a = a
headed_aimed goal.PropertyKey d h a = a
headed_aimed goal.Default d h a = a
headed_aimed goal.Sample d h a = a

-- what is expected of a value that goes to a key of an owner
pub expects : Expects IsAimedAt
expects = record { again = aimed_again; under = headed_aimed; told = λ d said a. a; noted = λ d p a. tt; defaulted = λ d v a. tt; sampled = λ d v a. tt; chosen = λ d. tt; default = default_aimed; sample = sample_aimed }

key_aimed : (w : Word) (d next : Draft) → property_key_act w d ≡ Ok next → IsAimed next
unfolding property_key_act aimed_at_key
key_aimed w d next e = let m = then_made w.start (property_rule w.text d.property) (λ rule. aimed_at_key goal.PropertyKey w.text rule d) next e in subst IsAimed {x = aimed_at_key goal.PropertyKey w.text m.0 d} m.1.1 tt

-- what is known of the owner where a key may stand next
abbrev pub IsAt : Symbol → Draft → Type 0
IsAt symbol.HeadItems d = d.outer ≡ []
IsAt symbol.PrimMetadata d = IsInside d.outer
IsAt symbol.EditedField d = IsNoted d.word × IsInside d.outer
IsAt s d = Unit {0}

-- what is known of a word and of the owner where the word stands
abbrev pub IsKnownAt : Symbol → WordKind → Word → Draft → Type 0
IsKnownAt s k w d = IsKnownAs k w.text × IsAt s d

pub keys : AimsKeys IsAimedAt IsKnownAt
unfolding aimed_at_key
keys = record {
  prim = λ x w rule d plain known. ap (λ f. f (keyword_of w.text)) (plain_inside d.outer known.1) ∙ ap is_plain_key known.0.1 ∙ plain;
  head = λ x w rule d plain known. ap (λ f. f (keyword_of w.text)) (root_head d.outer known.1) ∙ ap is_plain_head_key known.0.1 ∙ plain;
  edited = λ w rule d known. ap (λ f. f (keyword_of d.word)) (plain_inside d.outer known.1.1) ∙ known.1.0.1;
  property = λ x w d next known a. key_aimed w d next a;
}

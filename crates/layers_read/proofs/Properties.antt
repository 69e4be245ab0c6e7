-- The properties of each text are proper.
use Rattle.std.proofs.Common.{◌≡◌, ◌∙◌, inl, inr, true, List, ◌∷◌, Some, Ok, ap, sym, refl, arith}
use Rattle.std.proofs.lemmas.Bool.{not-true}
use Rattle.sdf_paths.specs.Paths.{IsPath}
use Rattle.sdf_values.specs.declared.value.Value.{Value}
use Rattle.text_syntax.specs.Open.{Follows as ValueFollows, IsAwaited, begins_value}
use Rattle.text_syntax.proofs.Texts.{followed as values}
use Rattle.usda_drafts.specs.Acts.{act}
use Rattle.usda_drafts.specs.Drafts.{blank, layer_of, layer_by}
use Rattle.usda_drafts.specs.Values.{is_selections, with_value_begun}
use Rattle.usda_drafts.specs.declared.aim.Goal.TheVariants as goal
use Rattle.usda_drafts.specs.declared.draft.Draft.{Draft}
use Rattle.usda_grammar.specs.Machine.{step}
use Rattle.usda_grammar.specs.Table.{layer}
use Rattle.usda_grammar.specs.declared.kinds.WordKind.{WordKind}
use Rattle.usda_grammar.specs.declared.kinds.WordKind.TheVariants as token
use Rattle.usda_grammar.specs.declared.symbols.Symbol.{Symbol}
use Rattle.usda_grammar.specs.declared.symbols.Symbol.TheVariants as symbol
use Rattle.usda_statements.specs.OpenValues.{is_open, value_in}
use Rattle.usda_values.specs.Drafts.{is_complete}
use Rattle.usda_values.specs.declared.shape.Shape.{Shape}
use Rattle.usda_values.specs.declared.shape.Shape.TheVariants.{Untyped}
use Rattle.usda_words.specs.Words.{Word}
use Rattle.value_texts.specs.Following.{IsOfToken}
use Rattle.properties_read.specs.Aims.{IsAimed, awaits_value, IsAiming, IsReadWhere, IsWhole}
use Rattle.properties_read.specs.Drafts.{CompletesWell, IsNameWord, IsUtf8Path, takes_values}
use Rattle.properties_read.specs.Stacks.{IsReading, IsReady}
use Rattle.properties_read.proofs.Aiming.{Aimed, found, steps_aimed, aimed_again}
use Rattle.properties_read.proofs.Aims.{values_aimed}
use Rattle.properties_read.proofs.OpenValues.{words_taken}
use Rattle.properties_read.proofs.Steps.{steps_keep}
use Rattle.values_read.specs.Owners.{ArePlaced}
use Rattle.values_read.specs.Sound.{IsSound, IsSoundDraft, is_kept_as}
use Rattle.values_read.specs.Tokens.{is_lexed, IsLexedWord}
use Rattle.values_read.specs.Words.{IsOpenSound}
use Rattle.values_read.proofs.Acts.{words_keep, is_token}
use Rattle.values_read.proofs.Open.{open_sound}
use Rattle.values_read.proofs.Placed.{owners_have_paths}
use Rattle.trees_read.proofs.Runs.{IsAtEnd}
use Rattle.layers_read.specs.Laws.{SaidPropertiesAreProper}
use Rattle.layers_read.proofs.Runs.{holds_behind}
use Rattle.layers_read.proofs.Words.{IsKnownAs, known}

-- ---- words

pub name_known : (k : WordKind) (w : Word) → IsKnownAs k w.text → IsNameWord k w
name_known (token.Word x) w h = h.0
name_known k w h = tt

path_known : (k : WordKind) (w : Word) → IsKnownAs k w.text → IsUtf8Path k w
path_known token.Path w h = h
path_known k w h = tt

-- ---- values

read_where : (shape : Shape) (v : Value) → is_kept_as v shape true ≡ true → IsReadWhere shape v
read_where Untyped v h = tt
read_where shape v h = h

whole : (shape : Shape) (v : Value) → IsSound 0 shape true v → IsWhole shape v
whole shape v is = record { read = read_where shape v is.kept; writable = is.writable; deep = (let e = is.deep in omega (arith, e)); full = is.full; utf8 = is.utf8 }

completes : (w : Word) (d : Draft) → IsAimed d → is_lexed w.token w.text ≡ true → IsPath d.owner.said.base → IsSoundDraft d.aim.shape d.value.draft → CompletesWell w d
completes w d aim lexed path sound =
    values_aimed.completes w d aim (λ v e shut. whole d.aim.shape (value_in v) (open_sound.complete d.aim.shape v (open_sound.kept d.aim.shape d.owner.said.base d.value v w.token w.text path lexed sound e) shut))

pub begun_awaited : (s : Symbol) (below : List Symbol) → begins_value s ≡ true → awaits_value (s ∷ below) ≡ true
begun_awaited symbol.Value below h = refl
begun_awaited symbol.Dictionary below h = refl
begun_awaited _ below h = absurd cc

-- ---- each word

-- The properties are proper as far as they are read, where these symbols are left to be read, and so is the value that is open.
pub record Follows (stack : List Symbol) (d : Draft) : Type 0 where
  pub value : ValueFollows stack d
  pub sound : IsOpenSound d
  pub owners : ArePlaced d
  pub reading : IsReading stack d
  pub aiming : IsAiming stack d

kept : (stack : List Symbol) (d : Draft) (w : Word) (s : Symbol) (after : List Symbol) (next : Draft) → IsOfToken w → IsLexedWord w → Follows stack d → step stack w.kind ≡ Some (s, after) → act s w d ≡ Ok next → Follows after next
kept stack d w s after next token lexed f taken acted = record {
  value = values.kept stack d w s after next token f.value taken acted;
  sound = words_keep.kept s w d next at.pushed lexed base f.sound at.starts_is acted;
  owners = owners_have_paths.kept s w d next f.owners acted;
  reading = steps_keep.kept stack after s w d next taken acted ready f.reading;
  aiming = steps_aimed.kept stack after s w d next taken acted name f.aiming;
}
  where
    at : Aimed stack w.kind s after
    at = found stack w.kind s after f.aiming.calm taken

    base : IsPath d.owner.said.base
    base = owners_have_paths.base d f.owners

    name : IsNameWord w.kind w
    name = name_known w.kind w (known w token lexed)

    is : is_lexed w.token w.text ≡ true
    is = is_token s w at.pushed lexed at.starts_is

    apart : is_open d.value ≡ true → takes_values s ≡ true
    apart opened =
        let a : IsAwaited stack d.value.draft = f.value opened in
        words_taken d.value.draft a.0 after w.kind s a.1 (not-true (is_complete d.value.draft) opened) (ap (λ x. step x w.kind) (sym a.2) ∙ taken)

    ready : IsReady s w d
    ready = record {
      name = name;
      path = path_known w.kind w (known w token lexed);
      base = base;
      apart = apart;
      value = λ opened. completes w d (f.aiming.aimed (inl opened)) is base (f.sound opened);
      first = λ shut begins.
          completes w (with_value_begun d) (aimed_again d.aim.goal d (with_value_begun d).value (f.aiming.aimed (inr (at.awaited (begun_awaited s at.below begins))))) is base (open_sound.begun d.aim.shape (is_selections d.aim.goal));
    }

begins : Follows layer blank
begins = record { value = values.begins; sound = words_keep.begins; owners = owners_have_paths.begins; reading = steps_keep.begins; aiming = steps_aimed.begins }

pub properties_read : SaidPropertiesAreProper
unfolding layer_of layer_by
properties_read bytes d utf8 made = let e : IsAtEnd Follows d = holds_behind Follows kept bytes d utf8 begins made in steps_keep.proper e.stack d e.holds.reading

-- The rounds of composition, one at a time, as those of `variant_select`.
use Rattle.std.proofs.Common.{◌≡◌, ℕ, zero, suc, ◌==◌, Bool, true, false, List, [], ◌∷◌, ◌++◌, map, flat_map, length, take, Some, refl, sym, ap, ◌∙◌}
use Rattle.std.specs.List.{filter_map}
use Rattle.std.proofs.lemmas.Bool.{eqb-true}
use Rattle.variant_select.specs.declared.met.Met.{Met}
use Rattle.variant_select.specs.Rounds.{after_round, after_rounds, choices, round_limit, decided as decided_of}
use Rattle.variant_select.proofs.Lemmas.{from_none, one_round as one_less, no_round, no_more, none_added}
use Rattle.list_ops.specs.ListEdits.{firsts, without}
use Rattle.composition.specs.Texts.{Text, same_text}
use Rattle.composition.specs.Paths.{Path, Limits}
use Rattle.sdf_paths.specs.declared.element.Element.{Element}
use Rattle.composition.specs.World.{World, Root, identity, is_loaded}
use Rattle.composition.specs.Nodes.{Node, Frame, Choices, bare, bare_node, nth_frame, here}
use Rattle.composition.specs.Trees.{Tree, here_of, is_overgrown}
use Rattle.composition.specs.Strength.{listing, sites}
use Rattle.composition.specs.Compose.{first_selection, decided, tree_in_round, round, rounds, decides_nothing, frames_along, tree_of}
use Rattle.composition.specs.Faults.{Index, index}
use Rattle.choice_rounds.specs.Met.{opinion_at, met_with, met_at_each, met_of, told_of, met_in, told_in, frames_above, met_on_stage}
use Rattle.choice_rounds.specs.Laws.{ChoosesByRounds}
use Rattle.choice_rounds.proofs.Sets.{decided_is}
use Rattle.choice_rounds.proofs.Told.{told_is}
use Rattle.choice_rounds.proofs.Stage.{index_is, whole}

decided_by : (l : Limits) (places : List Tree) (xs : List Text) (cs : Choices) (b : Bool)
    → elim b as (λ _. Choices) [ true ↦ [] | false ↦ filter_map (first_selection l places) (without same_text (firsts same_text xs) (map (λ c. c.0) cs)) ]
    ≡ decided_of cs (elim b as (λ _. List Met) [ true ↦ [] | false ↦ map (met_with (opinion_at places)) (firsts same_text xs) ])
decided_by l places xs cs true = refl
decided_by l places xs cs false = decided_is (opinion_at places) xs cs

decides : (l : Limits) (t : Tree) (cs : Choices) → decided l t cs ≡ decided_of cs (met_of l t)
decides l t cs = decided_by l (sites l t) (flat_map (λ s. (here_of s).sets) (listing l t)) cs (is_overgrown t)

one_round : (l : Limits) (tree : Node → Tree) (n : Node) (above : List Frame) (f : Frame) → (round l tree n above f).choices ≡ after_round (met_in l tree n above f) f.choices
one_round l tree n above f = ap (λ (ds : Choices). f.choices ++ ds) (decides l (tree_in_round l tree n above f) f.choices)

-- one round, and then so many: the first is the last where it decides nothing
and_more : (m : Choices → List Met) (k : ℕ) (f g : Frame) (ds : Choices) (more : Frame) (b : Bool) → g.choices ≡ f.choices ++ ds → (length g.choices == length f.choices) ≡ b
    → g.choices ≡ after_round m f.choices → more.choices ≡ after_rounds m k g.choices → (elim b as (λ _. Frame) [ true ↦ g | false ↦ more ]).choices ≡ after_rounds m (suc k) f.choices
and_more m k f g ds more true joined none one then =
    let lengths : length (f.choices ++ ds) ≡ length f.choices = ap length (sym joined) ∙ eqb-true (length g.choices) (length f.choices) none in
    let same : g.choices ≡ f.choices = joined ∙ none_added f.choices ds lengths in
    same ∙ sym (no_more m (suc k) f.choices (sym one ∙ same))
and_more m k f g ds more false joined none one then = then ∙ ap (after_rounds m k) one ∙ sym (one_less m k (suc k) f.choices refl)

many_rounds : (l : Limits) (tree : Node → Tree) (k : ℕ) (n : Node) (above : List Frame) (f : Frame)
    → (rounds l tree k n above f).choices ≡ after_rounds (met_in l tree n above f) k f.choices
many_rounds l tree zero n above f = sym (no_round (met_in l tree n above f) f.choices)
many_rounds l tree (suc k) n above f =
    and_more (met_in l tree n above f) k f (round l tree n above f) (decided l (tree_in_round l tree n above f) f.choices) (rounds l tree k n above (round l tree n above f))
    (decides_nothing f (round l tree n above f)) refl refl (one_round l tree n above f) (many_rounds l tree k n above (round l tree n above f))

all_choices : (l : Limits) → l.rounds ≡ round_limit → (tree : Node → Tree) (n : Node) (above : List Frame) (loaded : Bool)
    → (rounds l tree l.rounds n above (record bare { loaded = loaded })).choices ≡ choices (met_in l tree n above (record bare { loaded = loaded }))
all_choices l sixteen tree n above loaded =
    many_rounds l tree l.rounds n above (record bare { loaded = loaded }) ∙ from_none (met_in l tree n above (record bare { loaded = loaded })) l.rounds sixteen

on_the_way : (l : Limits) → l.rounds ≡ round_limit → (tree : Node → Tree) (loaded : Path → Bool) (n : Node) (k : ℕ)
    → (nth_frame (frames_along l tree loaded n (suc k)) 0).choices
    ≡ choices (met_in l tree (record n { path = take (suc k) n.path }) (frames_along l tree loaded n k) (record bare { loaded = loaded (take (suc k) n.path) }))
on_the_way l sixteen tree loaded n k = all_choices l sixteen tree (record n { path = take (suc k) n.path }) (frames_along l tree loaded n k) (loaded (take (suc k) n.path))

on_the_stage : (l : Limits) → l.rounds ≡ round_limit → (w : World) (e : Element) (p : Path) (i : Index) → index l w (e ∷ p) ≡ Some i → i.choices ≡ choices (met_on_stage l w (e ∷ p))
on_the_stage l sixteen w e p i h =
    index_is l w (e ∷ p) i h
    ∙ on_the_way l sixteen (tree_of l (here l w)) (is_loaded w) (bare_node Root (e ∷ p) [] l.depth identity) (length p)
    ∙ ap (λ (q : Path). choices (met_in l (tree_of l (here l w)) (bare_node Root q [] l.depth identity) (frames_above l w (e ∷ p)) (record bare { loaded = is_loaded w q }))) (whole e p)

told_by : (l : Limits) (places : List Tree) (xs : List Text) (cs : Choices) (b : Bool)
    → elim b as (λ _. Choices) [ true ↦ [] | false ↦ filter_map (first_selection l places) (without same_text (firsts same_text xs) (map (λ c. c.0) cs)) ]
    ≡ decided_of cs (elim b as (λ _. List Met) [ true ↦ [] | false ↦ met_at_each xs places ])
told_by l places xs cs true = refl
told_by l places xs cs false = told_is xs places cs

site_by_site : (l : Limits) (t : Tree) (cs : Choices) → decided l t cs ≡ decided_of cs (told_of l t)
site_by_site l t cs = told_by l (sites l t) (flat_map (λ s. (here_of s).sets) (listing l t)) cs (is_overgrown t)

same_rounds : (m o : Choices → List Met) → ((cs : Choices) → decided_of cs (m cs) ≡ decided_of cs (o cs)) → (k : ℕ) (cs : Choices) → after_rounds m k cs ≡ after_rounds o k cs
same_rounds m o h zero cs = no_round m cs ∙ sym (no_round o cs)
same_rounds m o h (suc k) cs =
    one_less m k (suc k) cs refl ∙ ap (λ (ds : Choices). after_rounds m k (cs ++ ds)) (h cs) ∙ same_rounds m o h k (after_round o cs) ∙ sym (one_less o k (suc k) cs refl)

same_choices : (m o : Choices → List Met) → ((cs : Choices) → decided_of cs (m cs) ≡ decided_of cs (o cs)) → choices m ≡ choices o
same_choices m o h = sym (from_none m round_limit refl) ∙ same_rounds m o h round_limit [] ∙ from_none o round_limit refl

choices_by_sites : (l : Limits) (tree : Node → Tree) (n : Node) (above : List Frame) (f : Frame) → choices (met_in l tree n above f) ≡ choices (told_in l tree n above f)
choices_by_sites l tree n above f = same_choices (met_in l tree n above f) (told_in l tree n above f) (λ cs.
    sym (decides l (tree_in_round l tree n above (record f { choices = cs })) cs) ∙ site_by_site l (tree_in_round l tree n above (record f { choices = cs })) cs)

pub composition_chooses : ChoosesByRounds
composition_chooses = record {
  decides = decides;
  one_round = one_round;
  many_rounds = many_rounds;
  sixteen = refl;
  all_choices = all_choices;
  on_the_way = on_the_way;
  on_the_stage = on_the_stage;
  site_by_site = site_by_site;
  choices_by_sites = choices_by_sites;
}

-- Views are settled by what they read.
use Rattle.composition.specs.Keys.{reads}
use Rattle.composition.proofs.Same.{path_same}
use Rattle.agreeing_worlds.proofs.Covers.{reads_cover}
use Rattle.kept_stages.specs.Laws.{ViewsAreComposed}

pub views_are_composed : ViewsAreComposed
views_are_composed = record {
  composed = λ l meets tells. record {
    one_place = path_same;
    covered = λ w v p none. (reads_cover.same_view l w v p (tells w v (reads l w p) none), reads_cover.same_reads l w v p (tells w v (reads l w p) none));
  };
}

use Rattle.asset_names.proofs.Normalised.{stands_alone, takes_place, takes_all}
use Rattle.asset_names.proofs.laws.assets_take_the_place_of_their_layer.Goals as goal

pub returns : goal.returns
returns c = record { absolute = stands_alone; in_a_folder = takes_place; in_no_folder = takes_all }

-- Opinions as they are gathered: site by site, and at a site layer by layer.
use Rattle.std.specs.Prelude.{List, flat_map, Option, option_map, option_to_list}
use Rattle.sdf_values.specs.Scales.{Offset, composed}
use Rattle.composition.specs.Texts.{Text}
use Rattle.composition.specs.Paths.{limits}
use Rattle.composition.specs.World.{World}
use Rattle.composition.specs.Opinions.{Site, Said, said_at_all}

-- what a layer of a stack, given with its offset towards it, says at a site
abbrev pub said_by : World → Site → Text × Offset → Option Said
said_by w n e = option_map (λ spec. record { site = n; layer = e.0; offset = composed e.1 n.offset; spec = spec }) (w.spec e.0 n.path)

-- what the layers of a stack say at a site
unfoldable pub said_in : World → Site → List (Text × Offset) → List Said
said_in w n layers = flat_map (λ e. option_to_list (said_by w n e)) layers

-- what all layers say at some sites, within the limits of this project
unfoldable pub said_on : World → List Site → List Said
said_on w sites = said_at_all limits w sites

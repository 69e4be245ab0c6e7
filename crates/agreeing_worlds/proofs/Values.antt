-- What stands at a key, by its kind; of another kind what is given.
use Rattle.std.specs.Prelude.{Bool, Option}
use Rattle.spec_parts.specs.declared.spec.ArcPart.{ArcPart}
use Rattle.spec_parts.specs.declared.spec.BodyPart.{BodyPart}
use Rattle.composition.specs.Texts.{Text}
use Rattle.composition.specs.World.{Heading, RootNames}
use Rattle.composition.specs.Keys.{KeyValue, load_value, head_value, arcs_value, body_value, roots_value}

abbrev pub rule_in : Option Bool → KeyValue → Option Bool
rule_in other (load_value r) = r
rule_in other (head_value h root session) = other
rule_in other (arcs_value a) = other
rule_in other (body_value b) = other
rule_in other (roots_value r) = other

abbrev pub heading_in : Heading → KeyValue → Heading
heading_in other (load_value r) = other
heading_in other (head_value h root session) = h
heading_in other (arcs_value a) = other
heading_in other (body_value b) = other
heading_in other (roots_value r) = other

abbrev pub root_in : Text → KeyValue → Text
root_in other (load_value r) = other
root_in other (head_value h root session) = root
root_in other (arcs_value a) = other
root_in other (body_value b) = other
root_in other (roots_value r) = other

abbrev pub session_in : Option Text → KeyValue → Option Text
session_in other (load_value r) = other
session_in other (head_value h root session) = session
session_in other (arcs_value a) = other
session_in other (body_value b) = other
session_in other (roots_value r) = other

abbrev pub arcs_in : Option ArcPart → KeyValue → Option ArcPart
arcs_in other (load_value r) = other
arcs_in other (head_value h root session) = other
arcs_in other (arcs_value a) = a
arcs_in other (body_value b) = other
arcs_in other (roots_value r) = other

abbrev pub body_in : Option BodyPart → KeyValue → Option BodyPart
body_in other (load_value r) = other
body_in other (head_value h root session) = other
body_in other (arcs_value a) = other
body_in other (body_value b) = b
body_in other (roots_value r) = other

abbrev pub roots_in : Option RootNames → KeyValue → Option RootNames
roots_in other (load_value r) = other
roots_in other (head_value h root session) = other
roots_in other (arcs_value a) = other
roots_in other (body_value b) = other
roots_in other (roots_value r) = r

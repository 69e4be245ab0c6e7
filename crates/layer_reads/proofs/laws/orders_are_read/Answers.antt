use Rattle.layer_reads.proofs.Bodies.{body_orders, layer_orders}
use Rattle.layer_reads.proofs.laws.orders_are_read.Goals as goal

pub returns : goal.returns
returns c = record { body = body_orders; layer = layer_orders }

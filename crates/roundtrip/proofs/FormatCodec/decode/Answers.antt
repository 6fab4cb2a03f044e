-- The codec of any format of the power state has demand 3, by the format's law. Assumes nothing.
use Rattle.function_ids.specs.CallTable.{whole}
use Rattle.roundtrip.proofs.TwoCodecs.{demand3_of_format}
use Rattle.roundtrip.proofs.FormatCodec.decode.Goals as goal

pub returns-clause-demand3 : goal.returns-clause-demand3
returns-clause-demand3 g c = demand3_of_format g.S.StateFormat.read g.S.StateFormat.write g.met.S.StateFormat.writes_back whole

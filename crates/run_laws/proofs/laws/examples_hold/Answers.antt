use Rattle.std.proofs.Common.{refl}
use Rattle.weights.specs.Grams.{grams, weight_by}
use Rattle.run_laws.specs.Examples.{HallReport, PlacesMissing, SourcesAtFault}
use Rattle.run_laws.proofs.HallLawful.{hall_lawful}
use Rattle.run_laws.proofs.laws.examples_hold.Goals as goal

hall_report : HallReport
unfolding grams weight_by
hall_report = refl

places_missing : PlacesMissing
unfolding grams weight_by
places_missing = (refl, refl)

sources_at_fault : SourcesAtFault
sources_at_fault = (refl, refl)

pub returns : goal.returns
returns c = (hall_report, places_missing, sources_at_fault, hall_lawful)

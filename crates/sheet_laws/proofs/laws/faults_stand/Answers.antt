-- A fault stands whatever follows its line.
use Rattle.sheet_laws.proofs.Stands.{faults_stand}
use Rattle.sheet_laws.proofs.laws.faults_stand.Goals as goal

pub returns : goal.returns
returns c = faults_stand

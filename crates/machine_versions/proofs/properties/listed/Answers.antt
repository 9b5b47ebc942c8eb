use Rattle.std.proofs.Common.{refl}
use Rattle.machine_versions.proofs.properties.listed.Goals as goal

pub returns-in-Terminator-clause-says : goal.returns-in-Terminator-clause-says
returns-in-Terminator-clause-says c = rw c.in-Terminator.is (record { said = λ s. refl })

pub returns-in-Listed-clause-says : goal.returns-in-Listed-clause-says
returns-in-Listed-clause-says c = rw c.in-Listed.is (record { said = λ s. refl })

pub returns-in-Beyond-clause-says : goal.returns-in-Beyond-clause-says
returns-in-Beyond-clause-says c = rw c.in-Beyond.is (record { said = λ s. refl })

-- Demand 3: of every list of calls (Chains), page by page beside an image that changes (Pages), of the whole image (Images), and of a file
-- (FileChains).
use Rattle.admission.specs.Demand3.{Demand3}
use Rattle.admission.specs.FileDemands.{FileDemand3}
use Rattle.admission.proofs.Meets.{meets_shared}
use Rattle.admission.proofs.Chains.{chains}
use Rattle.admission.proofs.Pages.{pages}
use Rattle.admission.proofs.Images.{images}
use Rattle.admission.proofs.FileChains.{lent_apart, files, behind_commands}

pub demand3 : Demand3
demand3 = record { chains = chains; pages = pages; images = images; meets_shared = meets_shared }

pub file_demand3 : FileDemand3
file_demand3 = record { lent_apart = lent_apart; files = files; behind_commands = behind_commands }

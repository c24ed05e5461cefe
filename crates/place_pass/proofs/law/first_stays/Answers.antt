use Rattle.place_pass.proofs.FirstStays.{first_stays}
use Rattle.place_pass.proofs.law.first_stays.Goals as goal

pub returns : goal.returns
returns c = λ b es line x n sorted more. first_stays b es x n sorted more line

use Rattle.answer.proofs.Written.{answered}
use Rattle.answer.proofs.answer_case.Goals as goal

pub returns : goal.returns
returns c = answered _ _ _ _ _ _ (λ i. (c.type_inv.case i).fits) c.judge-n.ensures c.read_u32.ensures c.read_u32-2.ensures c.put_answer.ensures

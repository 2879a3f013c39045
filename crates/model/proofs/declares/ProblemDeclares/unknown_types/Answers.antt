use Rattle.model.proofs.declares.ProblemDeclares.unknown_types.Goals as goal

pub returns : goal.returns
returns c = record { is = c.unknowns.ensures.is; few = c.unknowns.ensures.few }

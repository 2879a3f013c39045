use Rattle.model.proofs.declares.ProblemDeclares.argument_types.Goals as goal

pub returns : goal.returns
returns c = record { is = c.arguments.ensures.is; few = c.arguments.ensures.few }

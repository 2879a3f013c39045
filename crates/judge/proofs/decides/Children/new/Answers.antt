use Rattle.std.proofs.Common.{length, ap, ◌∙◌}
use Rattle.std.proofs.lemmas.List.{take_at}
use Rattle.judge.proofs.decides.Children.new.Goals as goal

pub returns : goal.returns
returns c =
    let copied = c.copy_from_slice.ensures.after in
    take_at c.copy_from_slice.new.self _ (length c.args.numbers.now) (ap length copied) ∙ copied

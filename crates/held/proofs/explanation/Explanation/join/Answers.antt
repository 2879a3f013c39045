use Rattle.std.proofs.Common.{rules, bit_or, slice_index, arith}
use Rattle.held.proofs.Explanations.{contains_joined, called_each}
use Rattle.held.proofs.explanation.Explanation.join.Goals as goal

pub returns : goal.returns
returns c =
    let mine = c.args.self.now.words in
    let theirs = c.args.other.now.words in
    contains_joined c.from_fn-self.result mine theirs (omega arith) c.args.self.now.long c.args.other.now.long
    (called_each _ _ (λ i. bit_or (slice_index mine i) (slice_index theirs i)) (λ i y q few k. search rules) c.from_fn-self.result c.from_fn-self.ensures.items.each)

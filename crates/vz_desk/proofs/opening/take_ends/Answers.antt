use Rattle.std.proofs.Common.{arith}
use Rattle.vz_desk.proofs.Dealing.{one_unused, dealt_tokens, dealt_ends}
use Rattle.vz_desk.proofs.opening.take_ends.Goals as goal

pub end_of-requires-clause-unused : goal.end_of-requires-clause-unused
end_of-requires-clause-unused g c κs within = one_unused c.args.tokens.now.items c.loop-tokens.tokens.items c.pop.new.self.items c.in-Some.token c.loop-tokens.ends.items c.requires.unused c.loop-tokens.invariant.dealt (c.in-Some.ensures).items
    (let many = c.loop-tokens-test.true in let n = c.loop-tokens.tokens.ok.0 in omega arith)

pub returns-clause-tokens : goal.returns-clause-tokens
returns-clause-tokens g c = dealt_tokens c.args.tokens.now.items c.loop-tokens.tokens.items c.loop-tokens.ends.items c.loop-tokens.invariant.dealt c.loop-tokens.invariant.some
    (let few = c.loop-tokens-test.false in let n = c.loop-tokens.tokens.ok.0 in omega arith)

pub returns-clause-ends : goal.returns-clause-ends
returns-clause-ends g c = dealt_ends c.args.tokens.now.items c.loop-tokens.tokens.items c.loop-tokens.ends.items c.loop-tokens.invariant.dealt c.loop-tokens.invariant.some
    (let few = c.loop-tokens-test.false in let n = c.loop-tokens.tokens.ok.0 in omega arith)

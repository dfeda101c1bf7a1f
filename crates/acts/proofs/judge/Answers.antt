-- `acts::judge` meets its contract: what `counts_after` needs; the returns need no answer. Assumes nothing.
use Rattle.acts.specs.ActedLaws.{judge_counts}
use Rattle.acts.proofs.judge.Goals as goal

pub counts_after-after-requires : goal.counts_after-after-requires
counts_after-after-requires c = search judge_counts

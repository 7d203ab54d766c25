-- `pass_over` ends, since each turn leaves less to pass over.
use Rattle.play_list.proofs.pass_over.Given as goal

abbrev pub decreases-loop-left : goal.decreases-loop-left
decreases-loop-left g l = l.left

use Rattle.core_golden.proofs.trees.case.print_path.Goals as goal

pub loop-init : goal.loop-init
loop-init c = record { pairs = c.path-path.ensures.pairs; leads = c.path-path.ensures.leads }

use Rattle.corridors.proofs.walks.Walker.+go_on.Given as goal

abbrev pub decreases-go_on : goal.decreases-go_on
decreases-go_on l = l.left

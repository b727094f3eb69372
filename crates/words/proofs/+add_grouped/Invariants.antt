use Rattle.words.proofs.+add_grouped.Given as goal

abbrev pub decreases-add_grouped : goal.decreases-add_grouped
decreases-add_grouped l = l.groups

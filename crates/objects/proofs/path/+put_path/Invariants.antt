use Rattle.objects.proofs.path.+put_path.Given as goal

-- how many objects may still come falls at each call
abbrev pub decreases-put_path : goal.decreases-put_path
decreases-put_path l = l.limit

use Rattle.lrkit.proofs.trees.write_nodes.Goals as goal

pub returns-clause-ok : goal.returns-clause-ok
returns-clause-ok g c = λ t is. rw (c.nodes.ensures.value, c.as_slice.ensures.value, c.in_ok-visits.ensures.text t is) at c.write_visits.ensures.ok

pub returns-clause-begins : goal.returns-clause-begins
returns-clause-begins g c = λ t is. rw (c.nodes.ensures.value, c.as_slice.ensures.value, c.in_ok-visits.ensures.text t is) at c.write_visits.ensures.begins

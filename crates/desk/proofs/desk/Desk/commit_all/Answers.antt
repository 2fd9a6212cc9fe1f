use Rattle.desk.proofs.Outlasting.{all_after, first_after}
use Rattle.desk.proofs.desk.Desk.commit_all.Goals as goal

pub returns-clause-committed : goal.returns-clause-committed
returns-clause-committed g c =
    all_after c.commit_all-committed.result _ _ _ _ _ c.commit_all-committed.ensures.kept
    c.commit_all-committed.ensures.committed

pub returns-clause-broken_off : goal.returns-clause-broken_off
returns-clause-broken_off g c = first_after c.commit_all-committed.result _ _ _ _ _ c.commit_all-committed.ensures.kept
    c.commit_all-committed.ensures.broken_off

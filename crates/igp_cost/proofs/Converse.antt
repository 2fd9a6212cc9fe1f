-- The tree of a graph is certified: no edge betters its labels, and edges back them.
use Rattle.std.proofs.Common.{◌≡◌, ℕ, ◌+◌, ◌≤◌, ◌≢◌, ◌⊎◌, IsTrue, [], ◌∷◌, ◌++◌, All, Some, None, Option, refl, sym, ap, ◌∙◌, subst, inl, inr, arith}
use Rattle.std.specs.Prelude.{option_map}
use Rattle.std.proofs.lemmas.Bool.{cases_eq}
use Rattle.std.proofs.lemmas.Option.{same_Some}
use Rattle.net_prefix.specs.declared.addr.Addr.{Addr}
use Rattle.igp_cost.specs.declared.label.Label.{Label}
use Rattle.igp_cost.specs.Metric.{IsMetric}
use Rattle.igp_cost.specs.Walks.{Nodes, Edges, Steps, HasEdge, share_as, Leads, IsWalk, total, first_of, IsLeastWalk, IsCost, IsFirstHop}
use Rattle.igp_cost.specs.Labels.{IsNotAfter}
use Rattle.igp_cost.specs.Trees.{Reached, label_in, IsTreeOf}
use Rattle.igp_cost.specs.Offers.{via}
use Rattle.igp_cost.proofs.Exact.{same_addr}
use Rattle.igp_cost.proofs.Hops.{no_steps}
use Rattle.igp_cost.proofs.Kernel.{same_label}
use Rattle.igp_cost.proofs.Certificate.{HasSource, IsCertified, via_hop_start, via_hop_other, total_last, walk_on, first_alone, first_kept}

-- a walk, by its last step
pub record IsSplit (nodes : Nodes) (edges : Edges) (r a x : Addr) (steps : Steps) : Type 0 where
  pub before : Addr
  pub front : Steps
  pub metric : ℕ
  pub same : steps ≡ front ++ (x, metric) ∷ []
  pub leads : Leads nodes edges r a front before
  pub inside : IsTrue (share_as nodes r before)
  pub edge : HasEdge edges before x metric

pub split_last : (nodes : Nodes) (edges : Edges) (r a x b : Addr) (m : ℕ) (steps : Steps) →
    Leads nodes edges r a ((b, m) ∷ steps) x → IsSplit nodes edges r a x ((b, m) ∷ steps)
split_last nodes edges r a x b m [] walk = record {
  before = a;
  front = [];
  metric = m;
  same = let alone : Addr → Steps = λ y. (y, m) ∷ [] in ap alone walk.2;
  leads = refl;
  inside = walk.0;
  edge = subst (λ y. HasEdge edges a y m) walk.2 walk.1;
}
split_last nodes edges r a x b m ((c, n) ∷ steps) walk =
    let later = split_last nodes edges r b x c n steps walk.2 in
    record {
      before = later.before;
      front = (b, m) ∷ later.front;
      metric = later.metric;
      same = let first : Steps → Steps = λ l. (b, m) ∷ l in ap first later.same;
      leads = (walk.0, walk.1, later.leads);
      inside = later.inside;
      edge = later.edge;
    }

module _ (nodes : Nodes) (edges : Edges) (r : Addr) (t : Reached) (metrics : All (λ e. IsMetric e.2) edges)
    (tree : IsTreeOf nodes edges r t) where
  abbrev L : Addr → Option Label
  L x = label_in t x

  -- the least walk that a label stands for
  record HasWalk (x : Addr) (l : Label) : Type 0 where
    steps : Steps
    walk : IsLeastWalk nodes edges r x steps
    cost : total steps ≡ l.cost
    first : first_of r steps ≡ l.hop
    least : (others : Steps) → IsLeastWalk nodes edges r x others → l.hop.0 ≤ (first_of r others).0

  walk_at : (x : Addr) (l : Label) → L x ≡ Some l → HasWalk x l
  walk_at x l is =
      let cost = subst (λ o. IsCost nodes edges r x (option_map (λ l. l.cost) o)) is (tree.costs x) in
      let hop = subst (λ o. IsFirstHop nodes edges r x (option_map (λ l. l.hop) o)) is (tree.first_hops x) in
      record {
        steps = hop.begins.0;
        walk = hop.begins.1;
        cost = omega (
          arith,
          cost.2,
          cost.1.least hop.begins.0 hop.begins.1.walk,
          hop.begins.1.least cost.0 cost.1.walk,
        );
        first = hop.begins.2;
        least = hop.least;
      }

  -- what a walk to x tells of its label
  record IsReached (x : Addr) (steps : Steps) : Type 0 where
    label : Label
    is : L x ≡ Some label
    cost : label.cost ≤ total steps
    hop : total steps ≡ label.cost → label.hop.0 ≤ (first_of r steps).0

  reached_by : (x : Addr) (steps : Steps) → IsWalk nodes edges r x steps → IsReached x steps
  reached_by x steps walk = by (L x) refl
    where
      by : (o : Option Label) → L x ≡ o → IsReached x steps
      by None is = absurd (subst (λ o. IsCost nodes edges r x (option_map (λ l. l.cost) o)) is
          (tree.costs x) steps walk)
      by (Some k) is =
          let known = walk_at x k is in
          record {
            label = k;
            is = is;
            cost = omega (arith, known.cost, known.walk.least steps walk);
            hop = λ same. known.least steps
                (record {
                  walk = walk;
                  least = λ others on. omega (
                    arith,
                    same,
                    known.cost,
                    known.walk.least others on,
                  );
                });
          }

  start : L r ≡ Some (record { cost = 0; hop = r })
  start =
      let here = reached_by r [] refl in
      let known = walk_at r here.label here.is in
      let none : here.label.cost ≡ 0 = omega (arith, here.cost) in
      let hop : here.label.hop ≡ r = sym known.first
      ∙ no_steps nodes edges metrics r r known.steps known.walk.walk (omega (arith, known.cost, none)) in
      here.is ∙ ap (λ (l : Label). Some l) (same_label here.label r none hop)

  -- the label of the source
  no_cost : (x : Addr) (l : Label) → L x ≡ Some l → x ≡ r → l.cost ≡ 0
  no_cost x l is same = sym (ap (λ (y : Label). y.cost) (same_Some _ _ (sym start ∙ ap L (sym same) ∙ is)))

  closed : (a b : Addr) (m : ℕ) (l : Label) → HasEdge edges a b m → IsTrue (share_as nodes r a) → L a ≡ Some l →
      (k : Label) × (L b ≡ Some k) × IsNotAfter k (via r a b m l)
  closed a b m l edge inside is =
      let known = walk_at a l is in
      let longer = known.steps ++ (b, m) ∷ [] in
      let sum = total_last known.steps b m in
      let found = reached_by b longer (walk_on nodes edges r r a b known.steps m known.walk.walk inside edge) in
      let hop : found.label.cost ≡ l.cost + m → found.label.hop.0 ≤ (via r a b m l).hop.0 = λ same.
      let first = found.hop (omega (arith, sum, known.cost, same)) in
      elim (cases_eq a.0 r.0) as (λ _. found.label.hop.0 ≤ (via r a b m l).hop.0) [
        | inl at ↦
            let here = same_addr a r at in
            let through = ap (λ (y : Addr). y.0) (via_hop_start r a b m l here) in
            let alone = ap (λ (y : Addr). y.0) (first_alone nodes edges r metrics a b known.steps m known.walk.walk
            (omega (arith, known.cost, no_cost a l is here))) in
            omega (arith, first, through, alone)
        | inr differs ↦
            let apart : a ≢ r = λ q. differs (ap (λ (y : Addr). y.0) q) in
            let through = ap (λ (y : Addr). y.0) (via_hop_other r a b m l apart) in
            let kept = ap (λ (y : Addr). y.0) (first_kept nodes edges r a b known.steps m known.walk.walk apart
            ∙ known.first) in
            omega (arith, first, through, kept)
      ] in
      (found.label, found.is, record { cost = omega (arith, found.cost, sum, known.cost); hop = hop })

  backed_by : (x : Addr) (l : Label) (steps : Steps) → IsLeastWalk nodes edges r x steps → total steps ≡ l.cost →
      first_of r steps ≡ l.hop → (x ≡ r) ⊎ HasSource nodes edges r L x l
  backed_by x l [] least cost first = inl (sym least.walk)
  backed_by x l ((b, m) ∷ steps) least cost first =
      let s = split_last nodes edges r r x b m steps least.walk in
      let sum : total ((b, m) ∷ steps) ≡ total s.front + s.metric = ap total s.same ∙ total_last s.front x s.metric in
      let found = reached_by s.before s.front s.leads in
      let known = walk_at s.before found.label found.is in
      let again = least.least (known.steps ++ (x, s.metric) ∷ [])
      (walk_on nodes edges r r s.before x known.steps s.metric known.walk.walk s.inside s.edge) in
      let tight : total s.front ≡ found.label.cost = omega (
        arith,
        found.cost,
        known.cost,
        again,
        sum,
        total_last known.steps x s.metric,
      ) in
      let begins = ap (λ (y : Addr). y.0) (ap (first_of r) (sym s.same) ∙ first) in
      let hop : (via r s.before x s.metric found.label).hop.0 ≤ l.hop.0 =
      elim (cases_eq s.before.0 r.0) as (λ _. (via r s.before x s.metric found.label).hop.0 ≤ l.hop.0) [
        | inl at ↦
            let here = same_addr s.before r at in
            let through = ap (λ (y : Addr). y.0) (via_hop_start r s.before x s.metric found.label here) in
            let alone = ap (λ (y : Addr). y.0) (first_alone nodes edges r metrics s.before x s.front s.metric s.leads
            (omega (arith, tight, no_cost s.before found.label found.is here))) in
            omega (arith, begins, through, alone)
        | inr differs ↦
            let apart : s.before ≢ r = λ q. differs (ap (λ (y : Addr). y.0) q) in
            let through = ap (λ (y : Addr). y.0) (via_hop_other r s.before x s.metric found.label apart) in
            let kept = ap (λ (y : Addr). y.0) (first_kept nodes edges r s.before x s.front s.metric s.leads apart) in
            omega (arith, begins, through, kept, found.hop tight)
      ] in
      inr (record {
        before = s.before;
        metric = s.metric;
        label = found.label;
        edge = s.edge;
        inside = s.inside;
        is = found.is;
        enough = record { cost = omega (arith, cost, sum, tight); hop = λ _. hop };
      })

  backed : (x : Addr) (l : Label) → L x ≡ Some l → (x ≡ r) ⊎ HasSource nodes edges r L x l
  backed x l is = let known = walk_at x l is in backed_by x l known.steps known.walk known.cost known.first

  pub tree_certified : IsCertified nodes edges r (label_in t)
  tree_certified = record { metrics = metrics; start = start; closed = closed; backed = backed }

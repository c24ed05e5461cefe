-- The keys of the line that describes a cluster, as they are written.
use Rattle.std.specs.Prelude.{ℕ, List, codes}
use Rattle.fuxi_terms.specs.declared.cluster_key.ClusterKey.{ClusterKey}
use Rattle.fuxi_terms.specs.declared.cluster_key.ClusterKey.TheVariants.{Cluster, Resources, Machines, Groups, Rack, Has, Quota, Limit}

abbrev pub word_of : ClusterKey → List ℕ
word_of Cluster = codes "cluster"
word_of Resources = codes "resources"
word_of Machines = codes "machines"
word_of Groups = codes "groups"
word_of Rack = codes "rack"
word_of Has = codes "has"
word_of Quota = codes "quota"
word_of Limit = codes "limit"

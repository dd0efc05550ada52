-- Where an entry is marked: equal entries have one key, and so one site.
use Rattle.std.specs.Prelude.{ℕ, ◌%◌, List}
use Rattle.colour.specs.{point_key}
use Rattle.shades.specs.{shade_at}

-- the key of entry q
abbrev pub entry_key : List ℕ → ℕ → ℕ
entry_key p q = point_key (shade_at p q)

-- how many sites there are
abbrev pub sites : ℕ
sites = 1021

-- the site of entry q
abbrev pub site_of : List ℕ → ℕ → ℕ
site_of p q = entry_key p q % sites

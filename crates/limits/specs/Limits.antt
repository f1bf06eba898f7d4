-- Document 01, 'Plan text', and document 02's order 2: the limits, each named once, and the sizes that follow from them.
-- Assumes nothing.
use Rattle.std.specs.Prelude.{ℕ, ◌+◌, ◌*◌}

-- the longest text, in bytes
abbrev pub longest : ℕ
longest = 16384

-- the most channels
abbrev pub most_channels : ℕ
most_channels = 32

-- the most binders
abbrev pub most_binders : ℕ
most_binders = 32

-- the highest level that k may be
abbrev pub highest_level : ℕ
highest_level = 6

-- the highest name
abbrev pub highest_name : ℕ
highest_name = 63

-- the most free names
abbrev pub most_names : ℕ
most_names = 64

-- the most nodes
abbrev pub most_nodes : ℕ
most_nodes = 256

-- the greatest depth
abbrev pub most_depth : ℕ
most_depth = 32

-- the outermost level, # in document 000, is the number behind the highest level: 7
abbrev pub outermost : ℕ
outermost = highest_level + 1

-- the levels that there are, # among them: eight
abbrev pub levels : ℕ
levels = outermost + 1

-- where the set of a level and a channel stands in a row, those of a level side by side
abbrev pub place_of : ℕ → ℕ → ℕ
place_of level channel = level * most_channels + channel

-- the sets of such a row: 256
abbrev pub level_sets : ℕ
level_sets = levels * most_channels

-- the things that may have a label: a channel, a binder or a level each
abbrev pub most_labels : ℕ
most_labels = most_channels + most_binders + levels

-- the longest label, in bytes
abbrev pub longest_label : ℕ
longest_label = 60

-- the longest shortened label, in bytes
abbrev pub longest_short : ℕ
longest_short = 24

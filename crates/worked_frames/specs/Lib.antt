-- frames of one column of values of fixed width, and stackers that hold them
pub mod Numbers

mod Cellwise
